use Rattle.std.proofs.Common.{◌∙◌}
use Rattle.cwr_advice.proofs.lemmas.Ampersands.{ampersand_found}
use Rattle.cwr_advice.proofs.characters.has_ampersand.Goals as goal

pub returns : goal.returns
returns c = c.is_some.ensures ∙ ampersand_found c.memchr.result c.args.cell.now c.memchr.ensures
