use Rattle.cwr_devices.proofs.lemmas.Adding.{adds_both}
use Rattle.cwr_notes.proofs.finding_notes.explained_finding.Goals as goal

pub returns-clause-adds : goal.returns-clause-adds
returns-clause-adds g c = adds_both c.finding_line.ensures c.finding_notes.ensures.adds
