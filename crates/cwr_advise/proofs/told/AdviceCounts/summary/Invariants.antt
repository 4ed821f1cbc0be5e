use Rattle.std.proofs.Common.{◌≤◌, ◌-◌, length, take}
use Rattle.std.specs.Prelude.{slice_index}
use Rattle.std.specs.List.{flat_map}
use Rattle.cwr_devices.specs.Steps.Pens.{Adds}
use Rattle.cwr_advice.specs.Format.RuleOrder.{all_rules, place_of_rule}
use Rattle.cwr_advise.specs.Format.ToldAdvice.{summary_line}
use Rattle.cwr_advise.proofs.told.AdviceCounts.summary.Given as goal

abbrev pub invariant-loop-rule : goal.invariant-loop-rule
invariant-loop-rule g l = record {
  within : l.i ≤ length all_rules;
  adds : Adds g.W.Target.contents g.W.Target.failures
      (flat_map (λ rule. summary_line l.all rule (slice_index l.self (place_of_rule rule))) (take l.i all_rules)) l.initial.pen l.pen;
}

abbrev pub decreases-loop-rule : goal.decreases-loop-rule
decreases-loop-rule g l = length all_rules - l.i
