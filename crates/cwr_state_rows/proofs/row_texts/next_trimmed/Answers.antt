use Rattle.std.proofs.Common.{ap}
use Rattle.cwr_devices.proofs.lemmas.Adding.{adds_as}
use Rattle.cwr_state_rows.specs.Format.RowTexts.{next_shown}
use Rattle.cwr_state_rows.proofs.row_texts.next_trimmed.Goals as goal

pub returns : goal.returns
returns g c = adds_as (ap (next_shown c.args.encoding) c.trimmed.ensures) c.next_characters.ensures
