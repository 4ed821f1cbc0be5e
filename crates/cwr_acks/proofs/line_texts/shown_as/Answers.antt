use Rattle.std.proofs.Common.{ap}
use Rattle.cwr_devices.proofs.lemmas.Adding.{adds_as}
use Rattle.cwr_json.specs.Format.Encodings.{characters}
use Rattle.cwr_acks.proofs.line_texts.shown_as.Goals as goal

pub returns-in-Bytes : goal.returns-in-Bytes
returns-in-Bytes g c =
    rw c.in-Bytes.is (adds_as c.trimmed.ensures c.text.ensures)

pub returns-in-Characters : goal.returns-in-Characters
returns-in-Characters g c =
    rw c.in-Characters.is (adds_as (ap (characters c.in-Characters.encoding) c.trimmed-in-Characters.ensures)
    c.characters.ensures)
