use Rattle.cwr_devices.proofs.lemmas.Adding.{adds_as, adds_both}
use Rattle.cwr_state_rows.proofs.lemmas.MemberTexts.{member_there}
use Rattle.cwr_state_rows.proofs.row_texts.member.Goals as goal

pub returns : goal.returns
returns g c =
    adds_as (member_there c.args.encoding c.args.key.now c.args.cell.now c.is_empty.result c.is_empty.ensures c.if-is_empty.false)
    (adds_both (adds_both (adds_both c.text.ensures c.text-2.ensures) c.escaped_characters.ensures) c.text-3.ensures)
