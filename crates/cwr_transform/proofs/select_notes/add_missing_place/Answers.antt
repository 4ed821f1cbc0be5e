use Rattle.cwr_devices.proofs.lemmas.Adding.{adds_both}
use Rattle.cwr_transform.specs.Format.Told.{missing_place}
use Rattle.cwr_transform.proofs.select_notes.add_missing_place.Goals as goal

pub returns : goal.returns
unfolding missing_place
returns g c = adds_both c.words.ensures c.add_place.ensures
