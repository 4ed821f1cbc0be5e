use Rattle.cwr_devices.proofs.lemmas.Adding.{adds_both}
use Rattle.cwr_state_rows.proofs.counts.first_counts.Goals as goal

pub returns : goal.returns
returns g c =
    adds_both (adds_both (adds_both (adds_both (adds_both c.text.ensures c.named.ensures) c.named-2.ensures) c.named-3.ensures)
    c.named-4.ensures) c.named-5.ensures
