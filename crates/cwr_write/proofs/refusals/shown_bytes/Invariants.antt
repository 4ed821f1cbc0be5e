use Rattle.std.proofs.Common.{take}
use Rattle.std.specs.Prelude.{flat_map}
use Rattle.cwr_devices.specs.Steps.Pens.{Adds}
use Rattle.cwr_write.specs.Format.OutcomeTexts.{shown_byte}
use Rattle.cwr_write.proofs.refusals.shown_bytes.Given as goal

abbrev pub invariant-loop-b : goal.invariant-loop-b
invariant-loop-b g l =
    Adds g.W.Target.contents g.W.Target.failures (flat_map shown_byte (take l.b-index l.text)) l.initial.pen l.pen
