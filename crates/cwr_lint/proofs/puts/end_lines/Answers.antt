use Rattle.cwr_devices.proofs.lemmas.Adding.{adds_both}
use Rattle.cwr_lint.proofs.puts.end_lines.Goals as goal

pub returns : goal.returns
returns g c = adds_both c.summary.ensures (adds_both c.truncated_unless.ensures c.faults_line.ensures)
