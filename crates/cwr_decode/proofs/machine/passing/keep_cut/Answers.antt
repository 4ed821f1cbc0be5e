use Rattle.std.proofs.Common.{Bool, false, Option, Some, None, refl, sym, ap, subst, ◌∙◌, ◌++◌, ◌∷◌, []}
use Rattle.std.specs.Prelude.{◌≡◌, true, IsSomeAnd}
use Rattle.cwr_fields.specs.declared.kinds.Kind.{Kind}
use Rattle.cwr_lines.specs.Format.Records.{RecordValue, IsRecord}
use Rattle.cwr_fields.specs.Format.Kinds.{is_in_transaction}
use Rattle.cwr_decode.specs.Steps.Machines.{HandsOut, Standing, reading, with_tally}
use Rattle.cwr_decode.proofs.lemmas.LineSteps.{added_now, same_record, waits_now}
use Rattle.cwr_decode.proofs.machine.passing.keep_cut.Goals as goal

pub known_record-requires : goal.known_record-requires
known_record-requires g c =
    let q = c.count_quickly.ensures.counted c.if-not-count_quickly.false in
    subst (λ (o : Option RecordValue). IsSomeAnd o IsRecord) (sym q.carried) q.in_order

pub returns-then-not-stays_open : goal.returns-then-not-stays_open
returns-then-not-stays_open g c = λ so_far stands. (
  stands,
  λ state finished.
      let d : Standing =
      record { line = c.args.cut.now; tally = c.args.tally.now; held = Some so_far; state = state; finished = finished } in
      let q = c.count_quickly.ensures.counted c.if-not-count_quickly.false in
      let out : HandsOut false (Some so_far) (Some so_far) None = (refl, refl) in
      waits_now d c.count_quickly.new.tally c.args.cut.now q.symbol q.accepted c.stays_open.result so_far (Some so_far) None refl
      (q.carried, q.in_order, q.excess) q.next q.limits q.stands
      (λ xs st. c.stays_open.ensures xs q.symbol st (q.stands xs st))
      (subst (λ (b : Bool). HandsOut b (Some so_far) (Some so_far) None) (sym c.if-not-stays_open.true) out) refl,
)

pub returns-then-add : goal.returns-then-add
returns-then-add g c = λ so_far stands. (
  c.known_record.result,
  c.add.ensures so_far stands c.if-add.true,
  λ state finished.
      let d : Standing =
      record { line = c.args.cut.now; tally = c.args.tally.now; held = Some so_far; state = state; finished = finished } in
      let q = c.count_quickly.ensures.counted c.if-not-count_quickly.false in
      let e : q.accepted ≡ c.known_record.result =
      same_record c.args.cut.now q.accepted c.known_record.result q.carried c.known_record.ensures in
      added_now d c.count_quickly.new.tally c.args.cut.now q.symbol q.accepted c.stays_open.result so_far
      (reading (with_tally d c.count_quickly.new.tally) (Some (so_far ++ c.known_record.result ∷ []))) refl
      (subst (λ (q : Option Kind). IsSomeAnd q (λ kind. is_in_transaction kind ≡ true)) (sym c.in-Some.is ∙ c.kind.ensures)
      (sym c.is_in_transaction.ensures ∙ c.if-not-is_in_transaction.false))
      (q.carried, q.in_order, q.excess) q.next q.limits q.stands
      (λ xs st. c.stays_open.ensures xs q.symbol st (q.stands xs st)) c.if-not-stays_open.false refl
      (ap (λ (r : RecordValue). reading (with_tally d c.count_quickly.new.tally) (Some (so_far ++ r ∷ []))) (sym e)),
)
