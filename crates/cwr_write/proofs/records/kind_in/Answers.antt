use Rattle.std.proofs.Common.{length, sym, ap, arith, ◌∙◌}
use Rattle.json.specs.Json.{string}
use Rattle.cwr_fields.specs.Format.Kinds.{letters}
use Rattle.cwr_json.specs.Format.Forms.{kind_key}
use Rattle.cwr_write.proofs.lemmas.ToldMembers.{kind_found, kind_passed, kind_reason, kind_unnamed, member_in, none_has, none_left}
use Rattle.cwr_write.specs.Format.Faults.{IsKindReason}
use Rattle.cwr_write.proofs.records.kind_in.Goals as goal

pub returns-then-names_kind-clause-ok : goal.returns-then-names_kind-clause-ok
returns-then-names_kind-clause-ok c =
    let p =
    member_in _ _ c.loop-member.member-index c.member-item.result c.deref-member-items.ensures.value c.loop-member-test.true
    c.member-item.is in
    kind_found c.args.members.now.items c.loop-member.member-index c.member-item.result kind_key _ c.kind_of.result p.0 p.1
    (sym c.names_kind.ensures ∙ c.if-names_kind.true) c.loop-member.invariant c.kind_of.ensures.ok

pub loop-member-preserved : goal.loop-member-preserved
loop-member-preserved c =
    let p =
    member_in _ _ c.loop-member.member-index c.member-item.result c.deref-member-items.ensures.value c.loop-member-test.true
    c.member-item.is in
    c.loop-member.invariant ∙ kind_passed c.args.members.now.items c.loop-member.member-index c.member-item.result kind_key p.0
    p.1 (sym c.names_kind.ensures ∙ c.if-names_kind.false)

pub returns-then-names_kind-clause-err : goal.returns-then-names_kind-clause-err
returns-then-names_kind-clause-err c =
    let p =
    member_in _ _ c.loop-member.member-index c.member-item.result c.deref-member-items.ensures.value c.loop-member-test.true
    c.member-item.is in
    kind_unnamed c.args.members.now.items c.loop-member.member-index c.member-item.result kind_key _ c.kind_of.result p.0 p.1
    (sym c.names_kind.ensures ∙ c.if-names_kind.true) c.loop-member.invariant c.kind_of.ensures.err

pub returns-clause-err : goal.returns-clause-err
returns-clause-err c = λ kind named.
    none_left c.args.members.now.items c.loop-member.member-index kind_key (string (letters kind))
    (omega (arith, c.loop-member-test.false, ap length c.deref-member-items.ensures.value)) c.loop-member.invariant named

pub returns-then-names_kind-clause-reason : goal.returns-then-names_kind-clause-reason
returns-then-names_kind-clause-reason c =
    let p =
    member_in _ _ c.loop-member.member-index c.member-item.result c.deref-member-items.ensures.value c.loop-member-test.true
    c.member-item.is in
    kind_reason c.args.members.now.items c.loop-member.member-index c.member-item.result kind_key _ c.kind_of.result IsKindReason
    p.0 p.1 (sym c.names_kind.ensures ∙ c.if-names_kind.true) c.loop-member.invariant c.kind_of.ensures.reason

pub returns-clause-reason : goal.returns-clause-reason
returns-clause-reason c =
    none_has c.args.members.now.items c.loop-member.member-index kind_key
    (omega (arith, c.loop-member-test.false, ap length c.deref-member-items.ensures.value)) c.loop-member.invariant
