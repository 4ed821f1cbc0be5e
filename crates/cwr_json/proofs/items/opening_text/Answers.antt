use Rattle.cwr_devices.proofs.lemmas.Adding.{adds_both}
use Rattle.cwr_json.proofs.items.opening_text.Goals as goal

pub returns : goal.returns
returns g c = adds_both (adds_both c.text.ensures c.notes_text.ensures) c.text-2.ensures
