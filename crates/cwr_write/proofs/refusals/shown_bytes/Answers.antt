use Rattle.std.proofs.Common.{arith}
use Rattle.cwr_devices.proofs.lemmas.Adding.{adds_nothing}
use Rattle.cwr_json.proofs.lemmas.BytesAdded.{adds_byte, adds_bytes}
use Rattle.cwr_write.specs.Format.OutcomeTexts.{shown_byte}
use Rattle.cwr_write.proofs.refusals.shown_bytes.Goals as goal

pub loop-b-init : goal.loop-b-init
loop-b-init g c = adds_nothing

pub loop-b-preserved : goal.loop-b-preserved
loop-b-preserved g c =
    adds_byte shown_byte c.args.text.now c.loop-b.b-index c.loop-b-test.true c.loop-b.invariant c.shown_byte.ensures

pub returns : goal.returns
returns g c = adds_bytes shown_byte c.args.text.now c.loop-b.b-index (omega arith) c.loop-b.invariant
