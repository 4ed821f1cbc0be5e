use Rattle.std.proofs.Common.{◌≤◌, ◌-◌, length, take}
use Rattle.std.specs.Prelude.{option_map}
use Rattle.cwr_devices.specs.Steps.Pens.{Adds}
use Rattle.cwr_state_rows.specs.Steps.HeldRows.{numbered, transaction_text}
use Rattle.cwr_state_rows.proofs.putting.group_rows.Given as goal

abbrev pub invariant-loop-facts : goal.invariant-loop-facts
invariant-loop-facts g l = record {
  within : l.t ≤ length l.group.facts;
  adds : Adds g.W.Target.contents g.W.Target.failures
      (numbered (transaction_text l.form (option_map (λ n. n.now) l.name) l.files l.number l.group.answers) 0 (take l.t l.group.facts))
      l.initial.pen l.pen;
}

abbrev pub decreases-loop-facts : goal.decreases-loop-facts
decreases-loop-facts g l = length l.group.facts - l.t
