use Rattle.std.proofs.Common.{ap}
use Rattle.cwr_devices.proofs.lemmas.Adding.{adds_as}
use Rattle.cwr_state_rows.specs.Format.RowTexts.{member}
use Rattle.cwr_state_rows.proofs.row_texts.member_trimmed.Goals as goal

pub returns : goal.returns
returns g c = adds_as (ap (member c.args.encoding c.args.key.now) c.trimmed.ensures) c.member.ensures
