use Rattle.std.proofs.Common.{◌≡◌, true, take}
use Rattle.cwr_json.specs.Steps.FormTexts.{IsSimple}
use Rattle.cwr_json.proofs.spelling.is_simple.Given as goal

abbrev pub invariant-loop-b : goal.invariant-loop-b
invariant-loop-b l = l.simple ≡ true → IsSimple (take l.b-index l.cell)
