use Rattle.std.proofs.Common.{◌≡◌, ◌≤◌, take, drop, false}
use Rattle.std.specs.List.{list_any}
use Rattle.cwr_advice.specs.Format.Rules.{in_chain}
use Rattle.cwr_advice.proofs.advice_questions.chain_is_begun.Given as goal

abbrev pub invariant-loop-left : goal.invariant-loop-left
invariant-loop-left l = record {
  within : l.left ≤ l.end;
  none : list_any (in_chain l.sequence) (drop l.left (take l.end l.transaction)) ≡ false;
}

abbrev pub decreases-loop-left : goal.decreases-loop-left
decreases-loop-left l = l.left
