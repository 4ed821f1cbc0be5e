use Rattle.cwr_devices.proofs.lemmas.Adding.{adds_as}
use Rattle.cwr_tables.proofs.lemmas.QuotedCharacters.{doubled_high, doubled_low}
use Rattle.cwr_tables.proofs.cells.doubled_character.Goals as goal

pub returns-then-b-lt128 : goal.returns-then-b-lt128
returns-then-b-lt128 g c = adds_as (doubled_low c.args.encoding c.args.b c.if-b-lt128.true) c.doubled.ensures

pub returns-else-b-lt128 : goal.returns-else-b-lt128
returns-else-b-lt128 g c = adds_as (doubled_high c.args.encoding c.args.b c.if-b-lt128.false) c.character.ensures
