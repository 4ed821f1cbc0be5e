use Rattle.cwr_devices.proofs.lemmas.Adding.{adds_both}
use Rattle.cwr_acks.proofs.item_lines.end_at.Goals as goal

pub returns : goal.returns
returns g c =
    adds_both c.unanswered_alone.ensures c.counts_parts.ensures
