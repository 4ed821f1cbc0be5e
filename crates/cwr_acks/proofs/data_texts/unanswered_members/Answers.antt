use Rattle.cwr_devices.proofs.lemmas.Adding.{adds_as, adds_both}
use Rattle.cwr_acks.proofs.data_texts.unanswered_members.Goals as goal

pub returns : goal.returns
returns g c =
    adds_both (adds_both (adds_both (adds_both (adds_both (adds_both (adds_both (adds_both c.text.ensures c.number.ensures)
    c.text-2.ensures) c.number-2.ensures) c.text-3.ensures) (adds_as c.letters.ensures c.text-4.ensures)) c.text-5.ensures)
    c.number_member_if.ensures) c.text-6.ensures
