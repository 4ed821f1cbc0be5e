use Rattle.std.proofs.Common.{sym, ◌∙◌}
use Rattle.cwr_transform.proofs.lemmas.ListLines.{last_line, line_found}
use Rattle.cwr_transform.proofs.lists.first_line.Goals as goal

pub returns-in-Some-clause-parts : goal.returns-in-Some-clause-parts
returns-in-Some-clause-parts c = line_found c.args.text.now c.in-Some.at (sym c.place_of.ensures ∙ c.in-Some.is)

pub returns-in-None-clause-parts : goal.returns-in-None-clause-parts
returns-in-None-clause-parts c = last_line c.args.text.now (sym c.place_of.ensures ∙ c.in-None.is)
