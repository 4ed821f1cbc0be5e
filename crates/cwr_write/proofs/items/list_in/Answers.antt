use Rattle.std.proofs.Common.{sym, ap, subst, arith, length}
use Rattle.json.specs.Value.{members_view}
use Rattle.cwr_write.specs.Format.Faults.{IsListReason, TellsKey}
use Rattle.cwr_write.specs.declared.refusals.Why.TheVariants as whys
use Rattle.cwr_write.proofs.lemmas.ItemReasons.{missing_reason, of_records, repeated_list, unknown_first, unknown_second}
use Rattle.cwr_json.specs.Format.Forms.{records_key, told}
use Rattle.cwr_write.proofs.lemmas.ItemsRead.{key_other, key_same, only_is}
use Rattle.cwr_write.proofs.lemmas.NoItemData.{another_there, none_there, other_key}
use Rattle.cwr_write.proofs.lemmas.ToldMembers.{member_in}
use Rattle.cwr_write.proofs.items.list_in.Goals as goal

pub returns-in-None-clause-ok : goal.returns-in-None-clause-ok
returns-in-None-clause-ok c =
    let p =
    member_in _ _ c.first_said-at.result c.in-Some.member.now c.deref.ensures.value c.in-Some.ensures.lookup.3.0
    c.in-Some.ensures.lookup.1 in
    only_is c.args.members.now.items records_key c.first_said-at.result c.first_said-more.result c.in-Some.member.now p.0 p.1
    (key_same c.in-Some.member.now.0.now records_key (sym c.if-ne.ensures)) (c.first_said-at.ensures.said p.0)
    c.first_said-at.ensures.same c.first_said-more.ensures.same
    (omega (arith, c.in-None.ensures.lookup, ap length c.deref-2.ensures.value))

pub returns-in_default-clause-err : goal.returns-in_default-clause-err
returns-in_default-clause-err c =
    λ enc. none_there enc c.args.members.now.items c.first_said-at.result c.first_said-at.ensures.same
    (omega (arith, c.in_default.ensures.lookup, ap length c.deref.ensures.value))

pub returns-then-ne-clause-err : goal.returns-then-ne-clause-err
returns-then-ne-clause-err c =
    let p =
    member_in _ _ c.first_said-at.result c.in-Some.member.now c.deref.ensures.value c.in-Some.ensures.lookup.3.0
    c.in-Some.ensures.lookup.1 in
    λ enc. other_key enc c.args.members.now.items c.first_said-at.result c.in-Some.member.now p.0 p.1
    (c.first_said-at.ensures.said p.0) c.first_said-at.ensures.same
    (key_other c.in-Some.member.now.0.now records_key (sym c.if-ne.ensures))

pub returns-in-Some-get-clause-err : goal.returns-in-Some-get-clause-err
returns-in-Some-get-clause-err c =
    let p =
    member_in _ _ c.first_said-at.result c.in-Some.member.now c.deref.ensures.value c.in-Some.ensures.lookup.3.0
    c.in-Some.ensures.lookup.1 in
    let q =
    member_in _ _ c.first_said-more.result c.in-Some-get.other.now c.deref-2.ensures.value c.in-Some-get.ensures.lookup.3.0
    c.in-Some-get.ensures.lookup.1 in
    λ enc. another_there enc c.args.members.now.items c.first_said-at.result c.first_said-more.result c.in-Some.member.now
    c.in-Some-get.other.now p.0 p.1 (c.first_said-at.ensures.said p.0) c.first_said-at.ensures.same q.0 q.1
    (c.first_said-more.ensures.said q.0) c.first_said-more.ensures.same

pub returns-in-Some-2-clause-err : goal.returns-in-Some-2-clause-err
returns-in-Some-2-clause-err c =
    let p =
    member_in _ _ c.first_said-at.result c.in-Some.member.now c.deref.ensures.value c.in-Some.ensures.lookup.3.0
    c.in-Some.ensures.lookup.1 in
    let q =
    member_in _ _ c.first_said-more.result c.in-Some-2.other.now c.deref-2.ensures.value c.in-Some-2.ensures.lookup.3.0
    c.in-Some-2.ensures.lookup.1 in
    λ enc. another_there enc c.args.members.now.items c.first_said-at.result c.first_said-more.result c.in-Some.member.now
    c.in-Some-2.other.now p.0 p.1 (c.first_said-at.ensures.said p.0) c.first_said-at.ensures.same q.0 q.1
    (c.first_said-more.ensures.said q.0) c.first_said-more.ensures.same

pub returns-in_default-clause-reason : goal.returns-in_default-clause-reason
returns-in_default-clause-reason c = (
  c.of_key.ensures.record,
  c.of_key.ensures.kind,
  of_records (told
      (members_view c.args.members.now.items)) c.of_key.result.key whys.Missing c.of_key.result.why c.of_key.ensures.why tt c.of_key.ensures.key (missing_reason
      c.args.members.now.items c.first_said-at.result c.first_said-at.ensures.same
      (omega (arith, c.in_default.ensures.lookup, ap length c.deref.ensures.value))),
)

pub returns-then-ne-clause-reason : goal.returns-then-ne-clause-reason
returns-then-ne-clause-reason c =
    let p =
    member_in _ _ c.first_said-at.result c.in-Some.member.now c.deref.ensures.value c.in-Some.ensures.lookup.3.0
    c.in-Some.ensures.lookup.1 in (
      c.of_key-then-ne.ensures.record,
      c.of_key-then-ne.ensures.kind,
      subst (IsListReason (told (members_view c.args.members.now.items)) c.of_key-then-ne.result.key)
          (sym c.of_key-then-ne.ensures.why)
          (unknown_first c.args.members.now.items c.first_said-at.result c.in-Some.member.now c.of_key-then-ne.result.key
          c.of_key-then-ne.ensures.key p.0 p.1 (c.first_said-at.ensures.said p.0) c.first_said-at.ensures.same
          (sym c.if-ne.ensures)),
    )

pub returns-in-Some-get-clause-reason : goal.returns-in-Some-get-clause-reason
returns-in-Some-get-clause-reason c =
    let p =
    member_in _ _ c.first_said-at.result c.in-Some.member.now c.deref.ensures.value c.in-Some.ensures.lookup.3.0
    c.in-Some.ensures.lookup.1 in
    let q =
    member_in _ _ c.first_said-more.result c.in-Some-get.other.now c.deref-2.ensures.value c.in-Some-get.ensures.lookup.3.0
    c.in-Some-get.ensures.lookup.1 in (
      c.of_key-in-Some-get.ensures.record,
      c.of_key-in-Some-get.ensures.kind,
      subst (IsListReason (told (members_view c.args.members.now.items)) c.of_key-in-Some-get.result.key)
          (sym c.of_key-in-Some-get.ensures.why)
          (unknown_second c.args.members.now.items c.first_said-at.result c.first_said-more.result c.in-Some.member.now
          c.in-Some-get.other.now c.of_key-in-Some-get.result.key c.of_key-in-Some-get.ensures.key p.0 p.1
          (c.first_said-at.ensures.said p.0) c.first_said-at.ensures.same q.0 q.1 (c.first_said-more.ensures.said q.0)
          c.first_said-more.ensures.same (sym c.if-ne-2.ensures)),
    )

pub returns-in-Some-2-clause-reason : goal.returns-in-Some-2-clause-reason
returns-in-Some-2-clause-reason c =
    let p =
    member_in _ _ c.first_said-at.result c.in-Some.member.now c.deref.ensures.value c.in-Some.ensures.lookup.3.0
    c.in-Some.ensures.lookup.1 in
    let q =
    member_in _ _ c.first_said-more.result c.in-Some-get.other.now c.deref-2.ensures.value c.in-Some-get.ensures.lookup.3.0
    c.in-Some-get.ensures.lookup.1 in (
      c.of_key-in-Some-2.ensures.record,
      c.of_key-in-Some-2.ensures.kind,
      of_records (told (members_view
          c.args.members.now.items)) c.of_key-in-Some-2.result.key whys.Repeated c.of_key-in-Some-2.result.why c.of_key-in-Some-2.ensures.why tt (subst (TellsKey
          c.of_key-in-Some-2.result.key) (key_same c.in-Some-get.other.now.0.now records_key
          (sym c.if-ne-2.ensures)) c.of_key-in-Some-2.ensures.key)
          (repeated_list c.args.members.now.items c.first_said-at.result c.first_said-more.result c.in-Some.member.now
          c.in-Some-get.other.now p.0 p.1 (c.first_said-at.ensures.said p.0) c.first_said-at.ensures.same q.0 q.1
          (c.first_said-more.ensures.said q.0) c.first_said-more.ensures.same
          (key_same c.in-Some.member.now.0.now records_key (sym c.if-ne.ensures))
          (key_same c.in-Some-get.other.now.0.now records_key (sym c.if-ne-2.ensures))),
    )
