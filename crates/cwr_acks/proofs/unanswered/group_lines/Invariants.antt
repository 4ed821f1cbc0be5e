use Rattle.std.proofs.Common.{ℕ, ◌≤◌, ◌-◌, length, take}
use Rattle.std.specs.Prelude.{option_map}
use Rattle.std.specs.List.{enumerate_from, flat_map}
use Rattle.cwr_devices.specs.Steps.Pens.{Adds}
use Rattle.cwr_sent.specs.declared.facts.SentFacts.{SentFacts}
use Rattle.cwr_acks.specs.Format.AckLines.{telling_of}
use Rattle.cwr_acks.specs.Steps.AckSteps.{row_line}
use Rattle.cwr_acks.proofs.unanswered.group_lines.Given as goal

abbrev pub invariant-loop-facts : goal.invariant-loop-facts
invariant-loop-facts g l = record {
  within : l.t ≤ length l.group.facts;
  adds : Adds g.W.Target.contents g.W.Target.failures (flat_map (λ (p : ℕ × SentFacts). row_line (telling_of l.manner)
      (option_map (λ n. n.now) l.name) l.number l.group.answers p.0 p.1) (take l.t (enumerate_from 0 l.group.facts)))
      l.initial.pen l.pen;
}

abbrev pub decreases-loop-facts : goal.decreases-loop-facts
decreases-loop-facts g l = length l.group.facts - l.t
