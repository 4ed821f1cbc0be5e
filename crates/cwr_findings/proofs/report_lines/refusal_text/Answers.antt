use Rattle.cwr_devices.proofs.lemmas.Adding.{adds_as, adds_both}
use Rattle.cwr_findings.proofs.report_lines.refusal_text.Goals as goal

pub returns : goal.returns
returns g c =
    adds_both (adds_both (adds_both (adds_both (adds_both (adds_both (adds_both c.text.ensures c.number.ensures)
    c.text-2.ensures) c.number-2.ensures) c.text-3.ensures) (adds_as c.letter.ensures.letter c.words.ensures)) c.text-4.ensures)
    c.reason_text.ensures
