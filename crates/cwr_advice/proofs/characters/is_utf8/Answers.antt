use Rattle.std.proofs.Common.{◌∙◌}
use Rattle.cwr_advice.proofs.lemmas.AsciiTexts.{utf8_is}
use Rattle.cwr_advice.proofs.characters.is_utf8.Goals as goal

pub returns : goal.returns
returns c = c.is_ok.ensures.value ∙ utf8_is c.from_utf8.result c.args.cell.now _ _ c.from_utf8.ensures.cases
