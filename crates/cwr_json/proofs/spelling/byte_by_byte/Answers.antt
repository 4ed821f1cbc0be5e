use Rattle.std.proofs.Common.{arith}
use Rattle.cwr_devices.proofs.lemmas.Adding.{adds_nothing}
use Rattle.cwr_json.specs.Format.Encodings.{byte_by_byte, character}
use Rattle.cwr_json.proofs.lemmas.BytesAdded.{adds_byte, adds_bytes}
use Rattle.cwr_json.proofs.spelling.byte_by_byte.Goals as goal

pub loop-b-init : goal.loop-b-init
loop-b-init g c = adds_nothing

pub loop-b-preserved : goal.loop-b-preserved
loop-b-preserved g c =
    adds_byte (character c.args.encoding) c.args.cell.now c.loop-b.b-index c.loop-b-test.true c.loop-b.invariant c.character.ensures

pub returns : goal.returns
unfolding byte_by_byte
returns g c = adds_bytes (character c.args.encoding) c.args.cell.now c.loop-b.b-index (omega arith) c.loop-b.invariant
