use Rattle.std.proofs.Common.{ap}
use Rattle.cwr_devices.proofs.lemmas.Adding.{adds_as, adds_both}
use Rattle.cwr_json.specs.Steps.FormTexts.{spelled}
use Rattle.cwr_acks.proofs.data_texts.shown_cell.Goals as goal

pub returns : goal.returns
returns g c =
    adds_both (adds_both c.text.ensures (adds_as (ap (spelled c.args.encoding) c.trimmed.ensures)
    c.escaped_characters.ensures)) c.text-2.ensures
