use Rattle.std.proofs.Common.{sym}
use Rattle.cwr_devices.proofs.lemmas.Adding.{adds_as}
use Rattle.cwr_json.proofs.lemmas.Spelled.{spelled_high}
use Rattle.cwr_json.proofs.spelling.spelled_byte.Goals as goal

pub returns-else-b-lt128 : goal.returns-else-b-lt128
returns-else-b-lt128 g c =
    adds_as (sym (spelled_high c.args.encoding c.args.b c.if-b-lt128.false)) c.high_character.ensures
