use Rattle.cwr_devices.proofs.lemmas.Adding.{adds_both}
use Rattle.cwr_acks.proofs.data_texts.notes_members_if.Goals as goal

pub returns-in-Some : goal.returns-in-Some
returns-in-Some g c =
    rw c.in-Some.is (adds_both (adds_both (adds_both c.mark_part.ensures c.outcome_member.ensures) c.mark_part-in-Some.ensures)
    c.mark_part-in-Some-2.ensures)
