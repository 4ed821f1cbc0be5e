use Rattle.cwr_devices.proofs.lemmas.Adding.{adds_both}
use Rattle.cwr_acks.proofs.data_texts.counts_data_text.Goals as goal

pub returns : goal.returns
returns g c =
    adds_both (adds_both (adds_both (adds_both c.text.ensures c.number.ensures) c.text-2.ensures) c.count_members.ensures)
    c.text-3.ensures
