use Rattle.cwr_devices.proofs.lemmas.Adding.{adds_both}
use Rattle.cwr_transform.proofs.select_notes.add_lines.Goals as goal

pub returns : goal.returns
returns g c = λ numbers listed ps say say_places within within_places knows.
    adds_both c.add_selected.ensures
    (adds_both (c.add_numbers_if.ensures numbers ps say within knows.numbers_known)
    (c.add_places_if.ensures listed ps say_places within_places knows.places_known))
