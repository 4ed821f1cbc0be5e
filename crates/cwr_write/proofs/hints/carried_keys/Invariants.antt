use Rattle.std.proofs.Common.{take}
use Rattle.std.specs.Prelude.{flat_map}
use Rattle.cwr_devices.specs.Steps.Pens.{Adds}
use Rattle.cwr_fields.specs.Format.Layouts.{layout}
use Rattle.cwr_write.specs.Format.OutcomeTexts.{carried_key}
use Rattle.cwr_write.proofs.hints.carried_keys.Given as goal

abbrev pub invariant-loop-before : goal.invariant-loop-before
invariant-loop-before g l =
    Adds g.W.Target.contents g.W.Target.failures (flat_map carried_key (take l.before (layout l.kind))) l.initial.pen l.pen
