use Rattle.std.proofs.Common.{sym, ◌∙◌}
use Rattle.cwr_advice.proofs.lemmas.Ampersands.{none_written}
use Rattle.cwr_advice.proofs.characters.has_html.Goals as goal

pub returns-then-not-has_ampersand : goal.returns-then-not-has_ampersand
returns-then-not-has_ampersand c =
    sym (none_written c.args.cell.now (sym c.has_ampersand.ensures ∙ c.if-not-has_ampersand.true))
