use Rattle.std.proofs.Common.{◌≡◌, ◌+◌, ◌≤◌, cond, length, take, sym, ap, subst, ◌∙◌, arith}
use Rattle.json.specs.Json.{Members, no_members}
use Rattle.json.specs.Value.{members_view, value_view}
use Rattle.cwr_fields.specs.declared.kinds.Kind.{Kind}
use Rattle.cwr_json.specs.Format.Forms.{says, told}
use Rattle.cwr_write.specs.Steps.Filling.{IsFilled, with_last}
use Rattle.cwr_lines.specs.Format.Records.{RecordValue}
use Rattle.cwr_json.specs.Format.Forms.{IsDataOf}
use Rattle.cwr_write.specs.Steps.Filling.{NoneFrom}
use Rattle.cwr_write.proofs.lemmas.FaultsPassed.{passed_on}
use Rattle.cwr_write.proofs.lemmas.NoRecordData.{none_whole, told_parts}
use Rattle.cwr_write.specs.Format.Faults.{IsMemberReason}
use Rattle.cwr_write.specs.Steps.Filling.{joined}
use Rattle.std.proofs.Common.{drop}
use Rattle.cwr_write.proofs.lemmas.ToldMembers.{member_in, told_all, told_more, told_none}
use Rattle.cwr_write.proofs.records.filled.Goals as goal

pub loop-member-init : goal.loop-member-init
loop-member-init c = record {
  filled =
      subst (λ (k : Kind). IsFilled c.args.encoding k (told no_members) c.new-filling.result.draft c.new-filling.result.seen)
      (sym c.new-filling.ensures.kind)
      (subst (λ (ms : Members). IsFilled c.args.encoding c.args.kind ms c.new-filling.result.draft c.new-filling.result.seen)
      (sym told_none) (c.new-filling.ensures.filled c.args.encoding));
  kind_is = c.new-filling.ensures.kind;
}

pub loop-member-preserved : goal.loop-member-preserved
loop-member-preserved c =
    let m = c.member-item.result in
    let p =
    member_in _ _ c.loop-member.member-index m c.deref-member-items.ensures.value c.loop-member-test.true c.member-item.is in
    let before : Members = told (members_view (take c.loop-member.member-index c.args.members.now.items)) in
    let after : Members = cond (says m.0.now (value_view m.1)) (with_last before m.0.now (value_view m.1)) before in
    let met : IsFilled c.args.encoding c.loop-member.filling.kind after c.meet.new.self.draft c.meet.new.self.seen =
    c.in_ok-meet.ensures.ok before c.loop-member.invariant.filled in
    record {
      filled =
          subst (λ (ms : Members). IsFilled c.args.encoding c.meet.new.self.kind ms c.meet.new.self.draft c.meet.new.self.seen)
          (sym (told_more c.args.members.now.items c.loop-member.member-index m p.0 p.1))
          (subst (λ (k : Kind). IsFilled c.args.encoding k after c.meet.new.self.draft c.meet.new.self.seen)
          (sym c.in_ok-meet.ensures.kind) met);
      kind_is = c.in_ok-meet.ensures.kind ∙ c.loop-member.invariant.kind_is;
    }

pub returns-clause-ok : goal.returns-clause-ok
returns-clause-ok c =
    let all : length c.args.members.now.items ≤ c.loop-member.member-index =
    omega (arith, c.loop-member-test.false, ap length c.deref-member-items.ensures.value) in (
      c.loop-member.filling.seen,
      subst (λ (k : Kind). IsFilled c.args.encoding k (told (members_view c.args.members.now.items)) c.loop-member.filling.draft
          c.loop-member.filling.seen) c.loop-member.invariant.kind_is
          (subst (λ (ms : Members). IsFilled c.args.encoding c.loop-member.filling.kind ms c.loop-member.filling.draft
          c.loop-member.filling.seen) (told_all c.args.members.now.items c.loop-member.member-index
          all) c.loop-member.invariant.filled),
    )

pub returns-in_err-meet-clause-err : goal.returns-in_err-meet-clause-err
returns-in_err-meet-clause-err c =
    let m = c.member-item.result in
    let p =
    member_in _ _ c.loop-member.member-index m c.deref-member-items.ensures.value c.loop-member-test.true c.member-item.is in
    let before : Members = told (members_view (take c.loop-member.member-index c.args.members.now.items)) in
    let after : Members = cond (says m.0.now (value_view m.1)) (with_last before m.0.now (value_view m.1)) before in
    let none : NoneFrom c.args.encoding c.loop-member.filling.kind after =
    c.in_err-meet.ensures.err before c.loop-member.invariant.filled in
    let whole : NoneFrom c.args.encoding c.args.kind
    (told (members_view (take (c.loop-member.member-index + 1) c.args.members.now.items)))
    = subst (λ (k : Kind). NoneFrom c.args.encoding k
    (told (members_view (take (c.loop-member.member-index + 1) c.args.members.now.items)))) c.loop-member.invariant.kind_is
    (subst (λ (ms : Members). NoneFrom c.args.encoding c.loop-member.filling.kind ms)
    (sym (told_more c.args.members.now.items c.loop-member.member-index m p.0 p.1)) none) in
    passed_on c.from_residual.result c.in_err-meet.field-0.0 (λ _. (r : RecordValue) → r.kind ≡ c.args.kind → ¬ IsDataOf
    c.args.encoding (told (members_view c.args.members.now.items)) r) c.from_residual.ensures.1 (none_whole c.args.encoding
    c.args.members.now.items (c.loop-member.member-index + 1) c.args.kind whole)

pub returns-in_err-meet-clause-reason : goal.returns-in_err-meet-clause-reason
returns-in_err-meet-clause-reason c =
    let m = c.member-item.result in
    let i = c.loop-member.member-index in
    let items = c.args.members.now.items in
    let p = member_in _ _ i m c.deref-member-items.ensures.value c.loop-member-test.true c.member-item.is in
    let before : Members = told (members_view (take i items)) in
    let rest : Members = told (members_view (drop (i + 1) items)) in
    let after : Members = cond (says m.0.now (value_view m.1)) (with_last before m.0.now (value_view m.1)) before in
    let whole : told (members_view items) ≡ joined after rest =
    told_parts items (i + 1) ∙ ap (λ (ms : Members). joined ms rest) (told_more items i m p.0 p.1) in
    let reason : IsMemberReason c.args.encoding c.loop-member.filling.kind (joined after rest) c.in_err-meet.field-0.0.0
    c.in_err-meet.field-0.0.1 =
    c.in_err-meet.ensures.reason before rest c.loop-member.invariant.filled in
    passed_on c.from_residual.result c.in_err-meet.field-0.0
    (λ f. IsMemberReason c.args.encoding c.args.kind (told (members_view items)) f.0 f.1) c.from_residual.ensures.1
    (subst (λ (k : Kind). IsMemberReason c.args.encoding k (told (members_view items)) c.in_err-meet.field-0.0.0
    c.in_err-meet.field-0.0.1) c.loop-member.invariant.kind_is
    (subst (λ (ms : Members). IsMemberReason c.args.encoding c.loop-member.filling.kind ms c.in_err-meet.field-0.0.0
    c.in_err-meet.field-0.0.1) (sym whole) reason))
