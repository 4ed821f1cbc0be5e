use Rattle.std.proofs.Common.{◌++◌, take}
use Rattle.std.specs.Prelude.{Ok, map}
use Rattle.cwr_devices.specs.Steps.Sinks.{PutsText}
use Rattle.cwr_delivery.specs.Steps.Deliveries.{held_in}
use Rattle.cwr_state_rows.specs.Format.RowTexts.{head_of}
use Rattle.cwr_state_rows.specs.Steps.HeldRows.{numbered, sent_text}
use Rattle.cwr_state_rows.proofs.putting.put_delivery.Given as goal

abbrev pub invariant-loop-i : goal.invariant-loop-i
invariant-loop-i g l =
    PutsText g.W.Target.contents g.W.Target.failures (head_of l.form
    ++ numbered (sent_text l.form (map (λ n. n.items) l.names) (held_in l.delivery).files) 0 (take l.i (held_in l.delivery).sent))
    (Ok tt) l.fn.sink l.sink
