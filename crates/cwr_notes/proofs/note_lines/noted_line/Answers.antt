use Rattle.cwr_devices.proofs.lemmas.Adding.{adds_as, adds_both}
use Rattle.cwr_notes.proofs.note_lines.noted_line.Goals as goal

pub returns : goal.returns
returns g c =
    adds_both (adds_both (adds_both (adds_both (adds_both (adds_both (adds_both (adds_both c.text.ensures c.number.ensures)
    c.text-2.ensures) (adds_as c.letters.ensures c.text-3.ensures)) c.text-4.ensures) c.words.ensures) c.text-5.ensures)
    c.value_words.ensures) c.text-6.ensures
