use Rattle.std.proofs.Common.{take}
use Rattle.cwr_devices.specs.Steps.Pens.{Adds}
use Rattle.cwr_json.specs.Format.Forms.{key_of}
use Rattle.cwr_json.proofs.records.key_of.Given as goal

abbrev pub invariant-loop-b : goal.invariant-loop-b
invariant-loop-b g l = Adds g.W.Target.contents g.W.Target.failures (key_of (take l.b-index l.name)) l.initial.pen l.pen
