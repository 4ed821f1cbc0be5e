use Rattle.std.proofs.Common.{◌≡◌, ◌-◌, ◌≤◌, ◌||◌, length, drop, Option}
use Rattle.std.specs.List.{list_any}
use Rattle.cwr_shape.specs.declared.reasons.Level.{Level}
use Rattle.cwr_tools.specs.Format.Watching.{is_reached}
use Rattle.cwr_advise.specs.Format.AdviceLevels.{advice_reaches}
use Rattle.cwr_advise.proofs.worst.Worst.see_advice.Given as goal

abbrev pub invariant-loop-advice : goal.invariant-loop-advice
invariant-loop-advice l = record {
  within : l.i ≤ length l.found;
  worst : (asked : Option Level) → (is_reached asked l.self.level || list_any (advice_reaches asked) (drop l.i l.found))
      ≡ (is_reached asked l.fn.self.level || list_any (advice_reaches asked) l.found);
}

abbrev pub decreases-loop-advice : goal.decreases-loop-advice
decreases-loop-advice l = length l.found - l.i
