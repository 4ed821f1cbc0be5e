use Rattle.std.proofs.Common.{Bool, List, Option, Some, None, refl, sym, ap, subst, ◌∙◌, ◌++◌, ◌∷◌, []}
use Rattle.std.specs.Prelude.{◌≡◌, true, IsSomeAnd}
use Rattle.cwr_fields.specs.declared.kinds.Kind.{Kind}
use Rattle.cwr_lines.specs.Format.Records.{RecordValue, IsRecord}
use Rattle.cwr_fields.specs.Format.Kinds.{is_in_transaction}
use Rattle.cwr_decode.specs.Steps.HeldLists.{open_records}
use Rattle.cwr_decode.specs.Steps.Machines.{HandsOut, Standing, reading, with_tally}
use Rattle.cwr_decode.proofs.lemmas.HeldOpen.{counted_fits}
use Rattle.cwr_decode.proofs.lemmas.LineSteps.{added_now, same_record, waits_now}
use Rattle.cwr_decode.proofs.machine.quickly.enter_cut.Goals as goal

pub known_record-requires : goal.known_record-requires
known_record-requires c =
    let q = c.count_quickly.ensures.counted c.if-not-count_quickly.false in
    subst (λ (o : Option RecordValue). IsSomeAnd o IsRecord) (sym q.carried) q.in_order

pub returns-then-not-stays_open : goal.returns-then-not-stays_open
returns-then-not-stays_open c = λ state finished.
    let d : Standing =
    record { line = c.args.cut.now; tally = c.args.tally.now; held = c.args.held.now; state = state; finished = finished } in
    let q = c.count_quickly.ensures.counted c.if-not-count_quickly.false in
    waits_now d c.count_quickly.new.tally c.args.cut.now q.symbol q.accepted c.stays_open.result c.in-Open.transaction
    (Some c.in-Open.transaction) None refl
    (q.carried, q.in_order, q.excess) q.next q.limits q.stands
    (λ xs st. c.stays_open.ensures xs q.symbol st (q.stands xs st))
    (subst (λ (b : Bool). HandsOut b c.args.held.now (Some c.in-Open.transaction) None) (sym c.if-not-stays_open.true)
    (sym (ap open_records c.in-Open.is) ∙ c.held.view_is, refl)) refl

pub adds_known-requires : goal.adds_known-requires
adds_known-requires c =
    let q = c.count_quickly.ensures.counted c.if-not-count_quickly.false in
    counted_fits c.args.tally.now c.count_quickly.new.tally c.args.held.now c.args.cut.now c.known_record.result
    c.in-Open.transaction c.stays_open.result c.stage.result c.requires q c.known_record.ensures
    (subst (λ (q : Option Kind). IsSomeAnd q (λ kind. is_in_transaction kind ≡ true)) (sym c.in-Some.is ∙ c.kind.ensures)
    (sym c.is_in_transaction.ensures ∙ c.if-not-is_in_transaction.false))
    (λ xs st. c.stays_open.ensures xs q.symbol st (q.stands xs st)) c.if-not-stays_open.false (sym c.held.view_is ∙ ap open_records c.in-Open.is)
    c.stage.ensures.value

pub returns : goal.returns
returns c = λ state finished.
    let d : Standing =
    record { line = c.args.cut.now; tally = c.args.tally.now; held = c.args.held.now; state = state; finished = finished } in
    let q = c.count_quickly.ensures.counted c.if-not-count_quickly.false in
    let e : q.accepted ≡ c.known_record.result =
    same_record c.args.cut.now q.accepted c.known_record.result q.carried c.known_record.ensures in
    added_now d c.count_quickly.new.tally c.args.cut.now q.symbol q.accepted c.stays_open.result c.in-Open.transaction
    (reading (with_tally d c.count_quickly.new.tally) (Some c.adds_known.new.transaction)) refl
    (subst (λ (q : Option Kind). IsSomeAnd q (λ kind. is_in_transaction kind ≡ true)) (sym c.in-Some.is ∙ c.kind.ensures)
    (sym c.is_in_transaction.ensures ∙ c.if-not-is_in_transaction.false))
    (q.carried, q.in_order, q.excess) q.next q.limits q.stands
    (λ xs st. c.stays_open.ensures xs q.symbol st (q.stands xs st)) c.if-not-stays_open.false (sym c.held.view_is ∙ ap open_records c.in-Open.is)
    (ap (λ (xs : List RecordValue). reading (with_tally d c.count_quickly.new.tally) (Some xs)) (c.adds_known.ensures.added
    c.if-not-adds_known.false ∙ ap (λ (r : RecordValue). c.in-Open.transaction ++ r ∷ []) (sym e)))
