use Rattle.std.proofs.Common.{take}
use Rattle.std.specs.Prelude.{option_map}
use Rattle.cwr_devices.specs.Steps.Pens.{Adds}
use Rattle.cwr_sent.specs.Format.SentRows.{shown_in}
use Rattle.cwr_state_rows.specs.Steps.HeldRows.{group_text, numbered}
use Rattle.cwr_state_rows.proofs.putting.sent_rows.Given as goal

abbrev pub invariant-loop-g : goal.invariant-loop-g
invariant-loop-g g l =
    Adds g.W.Target.contents g.W.Target.failures
    (numbered (group_text l.form (option_map (λ n. n.now) l.name) l.files) 1 (take l.g (shown_in l.sent).groups))
    l.initial.pen l.pen
