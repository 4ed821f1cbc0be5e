-- What is held when a record is entered: the record continues that, or begins a transaction where nothing is held.
use Rattle.std.proofs.Common.{◌≡◌, ℕ, ◌-◌, ◌≤◌, Bool, true, false, cond, List, [], ◌∷◌, ◌++◌, length, map, take, drop, Option}
use Rattle.std.proofs.Common.{None, Some, refl, sym, ap, subst, ◌∙◌, arith}
use Rattle.std.specs.Prelude.{IfSome, IsSomeAnd}
use Rattle.std.specs.List.{AllByRecursion}
use Rattle.std.proofs.lemmas.List.{length-append, length-map, drop-map}
use Rattle.cwr_fields.specs.declared.kinds.Kind.{Kind}
use Rattle.cwr_fields.specs.declared.kinds.Kind.TheVariants.{Hdr, Grh, Grt, Trl}
use Rattle.cwr_lines.specs.Format.Records.{RecordValue, IsRecord}
use Rattle.cwr_lines.specs.Steps.Held.{HeldLine, held_kind, held_record}
use Rattle.cwr_shape.specs.declared.symbols.Symbol.{Symbol}
use Rattle.cwr_shape.specs.declared.stages.Stage.{Stage}
use Rattle.cwr_shape.specs.Format.Ranges.{AreInRange}
use Rattle.cwr_shape.specs.Format.NextSymbols.{open_records}
use Rattle.cwr_shape.specs.Steps.Tallies.{TallyValue, IsTallyOf as CountsFor}
use Rattle.cwr_shape.specs.Steps.Left.{StandsAt, StandsInside}
use Rattle.cwr_shape.proofs.lemmas.OpenTransactions.{open_stands}
use Rattle.cwr_shape.proofs.lemmas.WithinByFronts.{fits_along, none_passed}
use Rattle.cwr_values.specs.Format.Values.{symbol_of}
use Rattle.cwr_decode.specs.declared.machine.State.{State}
use Rattle.cwr_decode.specs.declared.machine.State.TheVariants as states
use Rattle.cwr_fields.specs.Format.Kinds.{is_in_transaction}
use Rattle.cwr_judge.specs.Steps.Judged.{IsCounted, IsNext}
use Rattle.cwr_judge.specs.Steps.Open.{open_of, continues_open}
use Rattle.cwr_judge.proofs.lemmas.EndingRecord.{ends_closes}
use Rattle.cwr_judge.proofs.lemmas.ContinuingRecord.{continuing_stays}
use Rattle.cwr_decode.specs.Steps.Machines.{AreHeld, ClosesLine, ComesTo, FitsHeld, FitsWaiting, HandsOut}
use Rattle.cwr_decode.specs.Steps.Machines.{HoldsOpen, Standing, held_list}
use Rattle.cwr_decode.specs.Steps.Represents.{RepresentsSome, RepresentsIn}
use Rattle.cwr_decode.specs.Steps.Calls.{Fed, TakesEnd}
use Rattle.cwr_decode.proofs.lemmas.AfterRecord.{few_records, inside_last, symbols-snoc}
use Rattle.cwr_decode.proofs.lemmas.AfterAcceptedLine.{all_snoc, list_held}
use Rattle.cwr_decode.proofs.lemmas.LineSteps.{carried_kind, same_record}

-- the symbols of the open transaction's records
open_symbols : (records : List RecordValue)
    → map symbol_of (open_of records)
    ≡ drop (length (map symbol_of records) - open_records (map symbol_of records)) (map symbol_of records)
open_symbols records =
    let xs : List Symbol = map symbol_of records in
    sym (drop-map symbol_of (length records - open_records xs) records)
    ∙ ap (λ (n : ℕ). drop (n - open_records xs) xs) (sym (length-map records symbol_of))

-- after a record that stands inside transactions, the open one's records stand at the step of the stage
open_fits : (records : List RecordValue) (r : RecordValue) (stage : Stage) → StandsAt (map symbol_of (records ++ r ∷ [])) stage
    → is_in_transaction r.kind ≡ true → StandsInside stage (map symbol_of (open_of (records ++ r ∷ [])))
open_fits records r stage st inside =
    subst (StandsInside stage) (sym (open_symbols (records ++ r ∷ [])))
    (open_stands (map symbol_of (records ++ r ∷ [])) stage st (inside_last r.kind records r refl inside))

fits_as : (stage : Stage) (held : List RecordValue) (r : RecordValue) (now : List RecordValue) → now ≡ held ++ r ∷ []
    → StandsInside stage (map symbol_of now) → ComesTo stage held r
fits_as stage held r now e b =
    subst (StandsInside stage) (symbols-snoc held r)
    (subst (λ (records : List RecordValue). StandsInside stage (map symbol_of records)) e b)

-- no more records come than the limit allows
few_counted : (tally : TallyValue) (records : List RecordValue) → AreInRange tally.limits
    → CountsFor tally (map symbol_of records) → length records ≤ 99999999
few_counted tally records in_range counted =
    let xs : List Symbol = map symbol_of records in
    let w = counted.within in
    let keeps = none_passed tally.limits xs (fits_along tally.limits w.0 xs w.3.0 w.1 w.2 w.3.1) in
    omega (arith, keeps.records, in_range.most_records, length-map records symbol_of)

-- a record that may come next fits what is held once the open transaction was handed out where it had to be
pub entry_fits : (d : Standing) (h : HoldsOpen d) (next : TallyValue) (line : HeldLine) (s : Symbol) (r : RecordValue)
    (continues : Bool)
    (taken left : Option (List RecordValue)) → IsNext d.tally.limits (map symbol_of h.records) line s r
    → CountsFor next (map symbol_of h.records ++ s ∷ [])
    → continues ≡ continues_open (map symbol_of h.records) s → HandsOut continues d.held taken left → FitsHeld next.stage r left
entry_fits d h next line s r continues taken left n counted g hands =
    λ inside. by continues inside (g ∙ ap (continues_open xs) (sym n.symbol)) hands
  where
    xs : List Symbol
    xs = map symbol_of h.records

    more : List RecordValue
    more = h.records ++ r ∷ []

    in_order : AllByRecursion IsRecord more
    in_order = all_snoc h.records r h.in_order n.in_order

    stands : StandsAt (map symbol_of more) next.stage
    stands =
        subst (λ (ss : List Symbol). StandsAt ss next.stage)
        (sym (symbols-snoc h.records r ∙ ap (λ (x : Symbol). xs ++ x ∷ []) n.symbol)) counted.stands

    few : length h.records ≤ 99999999
    few = few_counted d.tally h.records h.in_range h.counted

    by : (b : Bool) → is_in_transaction r.kind ≡ true → b ≡ continues_open xs (symbol_of r) → HandsOut b d.held taken left
        → ComesTo next.stage (held_list left) r
    by true inside e o =
        let kept : held_list left ≡ open_of h.records = ap held_list (o.1 ∙ h.held) ∙ list_held (open_of h.records) in
        let now =
        (continuing_stays h.records r in_order stands.begins few (sym e)).longer
        ∙ ap (λ (q : List RecordValue). q ++ r ∷ []) (sym kept) in
        fits_as next.stage (held_list left) r (open_of more) now (open_fits h.records r next.stage stands inside)
    by false inside e o =
        let alone =
        (ends_closes h.records r in_order stands.begins few (sym e)).open_now
        ∙ ap (λ (b : Bool). cond b (r ∷ []) []) inside in
        fits_as next.stage (held_list left) r (open_of more)
        (alone ∙ ap (λ (q : Option (List RecordValue)). held_list q ++ r ∷ []) (sym o.1))
        (open_fits h.records r next.stage stands inside)

-- a record that quick tests counted, and that continues the open transaction, fits its records
pub counted_fits : (old new : TallyValue) (held : Option (List RecordValue)) (line : HeldLine) (r : RecordValue)
    (so_far : List RecordValue) (continues : Bool) (stage : Stage) → AreHeld old held → (q : IsCounted old line new)
    → held_record line ≡ Some r → IsSomeAnd (held_kind line) (λ kind. is_in_transaction kind ≡ true)
    → ((xs : List Symbol) → CountsFor old xs → continues ≡ continues_open xs q.symbol) → continues ≡ true
    → held ≡ Some so_far → stage ≡ new.stage → ComesTo stage so_far r
counted_fits old new held line r so_far continues stage h q carried inside same on has e =
    let d : Standing = record { line = line; tally = old; held = held; state = states.Reading; finished = false } in
    let xs : List Symbol = map symbol_of h.records in
    let is_same : q.accepted ≡ r = same_record line q.accepted r q.carried carried in
    let of_kind : is_in_transaction q.accepted.kind ≡ true =
    subst (λ (k : Option Kind). IsSomeAnd k (λ kind. is_in_transaction kind ≡ true))
    (carried_kind line q.accepted q.carried) inside in
    let fits =
    entry_fits d h new line q.symbol q.accepted true None held (q.next xs h.counted) (q.stands xs h.counted)
    (sym on ∙ same xs h.counted) (refl, refl) of_kind in
    subst (λ (t : Stage). ComesTo t so_far r) (sym e)
    (subst (ComesTo new.stage so_far) is_same
    (subst (λ (o : Option (List RecordValue)). ComesTo new.stage (held_list o) q.accepted) has fits))

-- the record that waits begins a transaction, where it stands inside one
pub waiting_fits : (d : Standing) → RepresentsSome d → FitsWaiting d
waiting_fits d u = λ e.
    let p = subst (λ (s : State). RepresentsIn s d u.input u.given) e u.stands.here in
    let more : List RecordValue = p.records ++ p.last ∷ [] in
    let stands = p.read.counted.stands in
    let few : length p.records ≤ 99999999 =
    omega (
      arith,
      few_records d.tally p.lines more u.stands.in_range p.read,
      length-map more symbol_of,
      length-append p.records (p.last ∷ []),
    ) in
    let closes = ends_closes p.records p.last p.read.in_order stands.begins few p.ends in
    subst (λ (q : Option RecordValue). IfSome q (λ r. FitsHeld d.tally.stage r d.held)) (sym p.line)
    (λ inside. fits_as d.tally.stage (held_list d.held) p.last (open_of more)
    (closes.open_now ∙ ap (λ (b : Bool). cond b (p.last ∷ []) []) inside
    ∙ ap (λ (q : Option (List RecordValue)). held_list q ++ p.last ∷ []) (sym p.held))
    (open_fits p.records p.last d.tally.stage stands inside))

-- while a decoder reads, the open transaction is held
pub reading_holds : (d : Standing) → RepresentsSome d → d.state ≡ states.Reading → HoldsOpen d
reading_holds d u e =
    let r = subst (λ (s : State). RepresentsIn s d u.input u.given) e u.stands.here in
    record
    { in_range = u.stands.in_range; records = r.records; in_order = r.read.in_order; counted = r.read.counted; held = r.held }

-- whatever its line is
pub holds_as : (d new : Standing) → new.tally ≡ d.tally → new.held ≡ d.held → HoldsOpen d → HoldsOpen new
holds_as d new t e h =
    subst (λ (q : TallyValue). AreHeld q new.held) (sym t)
    (subst (λ (q : Option (List RecordValue)). AreHeld d.tally q) (sym e) h)

-- ---- after the steps of a call

-- records of any other kinds stand inside transactions
pub inside_unless : (kind : Kind) → (kind ≡ Hdr → ⊥) → (kind ≡ Grh → ⊥) → (kind ≡ Grt → ⊥) → (kind ≡ Trl → ⊥)
    → is_in_transaction kind ≡ true
inside_unless Hdr a b c d = absurd (a refl)
inside_unless Grh a b c d = absurd (b refl)
inside_unless Grt a b c d = absurd (c refl)
inside_unless Trl a b c d = absurd (d refl)
inside_unless kind a b c d = refl

-- bytes were used, and nothing was answered
pub fed_holds : (old d new : Standing) (piece : List ℕ) (used : ℕ) → RepresentsSome old → Fed old piece used d
    → new.tally ≡ d.tally → new.held ≡ d.held → HoldsOpen new
fed_holds old d new piece used u f t e =
    holds_as d new t e (reading_holds d
    (record { input = u.input ++ take used piece; given = u.given; stands = f.carries.stands u.input u.given u.stands }) f.reading)

-- a last line without its line feed is there
pub closed_holds : (old new : Standing) → RepresentsSome old → ClosesLine true old new → HoldsOpen new
closed_holds old new u c =
    holds_as old new (ap (λ (q : Standing). q.tally) c.2) (ap (λ (q : Standing). q.held) c.2) (reading_holds old u c.0)

-- the end of the input was taken, and nothing was answered
pub ended_fits : (old new : Standing) → RepresentsSome old → TakesEnd old None new → FitsWaiting new
ended_fits old new u t =
    waiting_fits new (record { input = u.input; given = u.given; stands = t.carries.stands u.input u.given u.stands })
