use Rattle.std.proofs.Common.{ap}
use Rattle.cwr_devices.proofs.lemmas.Adding.{adds_as, adds_both}
use Rattle.cwr_state_rows.specs.Format.RowTexts.{next_shown}
use Rattle.cwr_state_rows.proofs.row_texts.csv_sent.Goals as goal

pub returns : goal.returns
returns g c =
    adds_both (adds_both (adds_both c.next_number.ensures c.next_number-2.ensures)
    (adds_as (ap (next_shown c.args.encoding) c.letters.ensures) c.next_characters.ensures)) c.next_trimmed.ensures
