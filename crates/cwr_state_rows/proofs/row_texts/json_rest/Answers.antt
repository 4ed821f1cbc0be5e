use Rattle.std.proofs.Common.{ap, ◌∙◌}
use Rattle.std.specs.Prelude.{codes}
use Rattle.cwr_devices.proofs.lemmas.Adding.{adds_as, adds_both}
use Rattle.cwr_states.specs.Format.StateNames.{name_of}
use Rattle.cwr_state_rows.specs.Format.RowTexts.{member}
use Rattle.cwr_state_rows.proofs.row_texts.json_rest.Goals as goal

pub returns : goal.returns
returns g c =
    adds_both (adds_both (adds_both c.json_sent.ensures c.json_answer_if.ensures) (adds_as (ap (member c.args.encoding
    (codes ",\"state\":")) (c.as_bytes.ensures.value ∙ c.name.ensures ∙ ap name_of (c.state_by.ensures c.args.files.now)))
    c.member.ensures)) c.text.ensures
