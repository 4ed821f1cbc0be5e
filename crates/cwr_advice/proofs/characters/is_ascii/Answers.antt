use Rattle.cwr_advice.proofs.lemmas.AsciiTexts.{ascii_is}
use Rattle.cwr_advice.proofs.characters.is_ascii.Goals as goal

pub returns : goal.returns
returns c = ascii_is c.is_ascii.result c.args.cell.now c.is_ascii.ensures.cases
