use Rattle.std.proofs.Common.{take}
use Rattle.cwr_devices.specs.Steps.Pens.{Adds}
use Rattle.cwr_json.specs.Steps.FormTexts.{spelled_bytes}
use Rattle.cwr_json.proofs.spelling.spelled_bytes.Given as goal

abbrev pub invariant-loop-b : goal.invariant-loop-b
invariant-loop-b g l =
    Adds g.W.Target.contents g.W.Target.failures (spelled_bytes l.encoding (take l.b-index l.cell)) l.initial.pen l.pen
