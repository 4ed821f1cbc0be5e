use Rattle.std.proofs.Common.{rules}
use Rattle.cwr_devices.proofs.lemmas.Adding.{adds_as, adds_nothing}
use Rattle.cwr_acks.proofs.item_lines.transaction_at.Goals as goal
use Rattle.cwr_acks.proofs.item_lines.transaction_at.Goals.{then-not-is_ack-via-then-not-is_ack, then-not-is_ack-via-else-not-is_ack+then-not-is_told}

pub returns-then-not-is_ack : goal.returns-then-not-is_ack
returns-then-not-is_ack g c =
    elim c.then-not-is_ack.branch [
      | then-not-is_ack-via-then-not-is_ack w ↦ adds_as (search rules) adds_nothing
      | then-not-is_ack-via-else-not-is_ack+then-not-is_told w ↦ adds_as (search rules) adds_nothing
    ]
