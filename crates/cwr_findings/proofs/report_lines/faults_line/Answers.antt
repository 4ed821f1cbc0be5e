use Rattle.cwr_devices.proofs.lemmas.Adding.{adds_both}
use Rattle.cwr_findings.proofs.report_lines.faults_line.Goals as goal

pub returns : goal.returns
returns g c =
    adds_both (adds_both (adds_both (adds_both (adds_both (adds_both c.text.ensures c.number.ensures) c.text-2.ensures)
    c.number-2.ensures) c.text-3.ensures) c.number-3.ensures) c.text-4.ensures
