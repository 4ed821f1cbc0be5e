use Rattle.std.proofs.Common.{ap, ◌∙◌}
use Rattle.cwr_devices.proofs.lemmas.Adding.{adds_as, adds_both}
use Rattle.cwr_states.specs.Format.StateNames.{name_of}
use Rattle.cwr_state_rows.specs.Format.RowTexts.{next_shown}
use Rattle.cwr_state_rows.proofs.row_texts.csv_rest.Goals as goal

pub returns : goal.returns
returns g c =
    adds_both (adds_both (adds_both c.csv_sent.ensures c.csv_answer_if.ensures) (adds_as (ap (next_shown c.args.encoding)
    (c.as_bytes.ensures.value ∙ c.name.ensures ∙ ap name_of (c.state_by.ensures c.args.files.now))) c.next_characters.ensures))
    c.text.ensures
