use Rattle.std.proofs.Common.{sym}
use Rattle.cwr_fields.specs.Steps.Views.{field_view}
use Rattle.cwr_devices.proofs.lemmas.Adding.{adds_as}
use Rattle.cwr_json.proofs.lemmas.MembersOfFields.{field_member-some}
use Rattle.cwr_json.proofs.records.field_member.Goals as goal

pub returns : goal.returns
returns g c =
    adds_as (sym (field_member-some c.args.encoding c.args.shown.now c.args.j (field_view c.in-Some.place) c.in-Some.cell.now
    c.in-Some.ensures.value c.in-Some.ensures.place)) c.member_text.ensures
