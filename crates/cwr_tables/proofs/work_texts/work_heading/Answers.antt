use Rattle.cwr_devices.proofs.lemmas.Adding.{adds_as}
use Rattle.cwr_tables.proofs.lemmas.TextsOfWorks.{heading_is}
use Rattle.cwr_tables.proofs.work_texts.work_heading.Goals as goal

pub returns : goal.returns
returns g c = adds_as heading_is c.text.ensures
