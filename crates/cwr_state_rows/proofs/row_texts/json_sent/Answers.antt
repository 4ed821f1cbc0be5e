use Rattle.std.proofs.Common.{ap}
use Rattle.std.specs.Prelude.{codes}
use Rattle.cwr_devices.proofs.lemmas.Adding.{adds_as, adds_both}
use Rattle.cwr_state_rows.specs.Format.RowTexts.{member}
use Rattle.cwr_state_rows.proofs.row_texts.json_sent.Goals as goal

pub returns : goal.returns
returns g c =
    adds_both (adds_both (adds_both (adds_both (adds_both c.text.ensures c.number.ensures) c.text-2.ensures) c.number-2.ensures)
    (adds_as (ap (member c.args.encoding (codes ",\"type\":")) c.letters.ensures) c.member.ensures)) c.member_trimmed.ensures
