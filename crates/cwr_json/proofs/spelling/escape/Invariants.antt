use Rattle.std.proofs.Common.{take}
use Rattle.json.specs.Print.{escape}
use Rattle.cwr_devices.specs.Steps.Pens.{Adds}
use Rattle.cwr_json.proofs.spelling.escape.Given as goal

abbrev pub invariant-loop-b : goal.invariant-loop-b
invariant-loop-b g l = Adds g.W.Target.contents g.W.Target.failures (escape (take l.b-index l.cell)) l.initial.pen l.pen
