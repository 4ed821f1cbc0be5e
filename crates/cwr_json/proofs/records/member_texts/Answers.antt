use Rattle.std.proofs.Common.{◌≡◌, ◌<◌, length, sym, arith}
use Rattle.cwr_fields.specs.Format.Layouts.{layout}
use Rattle.cwr_devices.proofs.lemmas.Adding.{adds_as, adds_both}
use Rattle.cwr_json.proofs.lemmas.MembersOfFields.{members_filled, members_more}
use Rattle.cwr_json.proofs.records.member_texts.Goals as goal

pub loop-before-preserved : goal.loop-before-preserved
loop-before-preserved g c =
    let within : c.loop-before.before < length (layout c.args.shown.now.kind) =
    omega (arith, c.loop-before-test.true, c.filled_fields-before-end.ensures.most) in
    adds_as (sym (members_more c.args.encoding c.args.shown.now c.loop-before.before within))
    (adds_both c.loop-before.invariant c.field_member.ensures)

pub returns : goal.returns
returns g c =
    adds_as (members_filled c.args.encoding c.args.shown.now c.filled_fields-before-end.result c.loop-before.before
    (omega (arith, c.loop-before-test.false, c.loop-before.auto.before-end)) c.filled_fields-before-end.ensures.most
    c.filled_fields-before-end.ensures.blank) c.loop-before.invariant
