-- The items that were handed out from a text that is accepted are the first of its transmission's items.
use Rattle.std.proofs.Common.{◌≡◌, ℕ, ◌<◌, ◌≤◌, ◌^◌, Bool, true, false, List, [], ◌∷◌, ◌++◌, length, map, refl, sym, ap, subst}
use Rattle.std.proofs.Common.{◌∙◌, arith, append_assoc, append-nil, inl, inr}
use Rattle.std.specs.Prelude.{◌⊎◌}
use Rattle.std.proofs.lemmas.List.{length-append}
use Rattle.cwr_lines.specs.Format.Records.{RecordValue}
use Rattle.cwr_lines.specs.Format.Lines.{closed}
use Rattle.cwr_lines.specs.Steps.Held.{held_text}
use Rattle.cwr_shape.specs.Format.Ranges.{LimitValues, AreInRange}
use Rattle.cwr_shape.specs.Format.AnyTransmission.{Any}
use Rattle.cwr_shape.specs.Format.Outlines.{Continues}
use Rattle.cwr_shape.specs.Steps.Tallies.{TallyValue}
use Rattle.cwr_values.specs.declared.items.Item.{Item}
use Rattle.cwr_values.specs.Format.Values.{TransmissionValue, IsTransmission, FitsIn, symbol_of}
use Rattle.cwr_values.specs.Format.Rows.{records_of}
use Rattle.cwr_values.specs.Format.Begins.{rows_after, rows_so_far}
use Rattle.cwr_values.proofs.lemmas.RowAt.{rows_split}
use Rattle.cwr_judge.specs.Format.Ends.{IsAccepted}
use Rattle.cwr_judge.specs.Format.Items.{items, items_after, value_items}
use Rattle.cwr_judge.specs.Steps.Open.{items_so_far, item_of, Closes}
use Rattle.cwr_judge.proofs.lemmas.EndingRecord.{ends_closes}
use Rattle.cwr_judge.proofs.lemmas.ItemLaws.{items_of_parts}
use Rattle.cwr_judge.proofs.lemmas.ItemsOfTransactions.{items-append}
use Rattle.cwr_decode.specs.declared.machine.State.{State}
use Rattle.cwr_decode.specs.declared.machine.State.TheVariants as states
use Rattle.cwr_decode.specs.Steps.Machines.{Standing}
use Rattle.cwr_decode.specs.Steps.Represents.{AreAccepted, IsInput, IsPending, IsThrough, Represents, RepresentsIn, text_of}
use Rattle.cwr_decode.proofs.lemmas.BoundedInputs.{accepted_few}
use Rattle.cwr_decode.proofs.lemmas.ClosedTexts.{closed_more}
use Rattle.cwr_decode.proofs.lemmas.NoneAcceptedAfter.{first_records}

-- ---- the text

-- The input begins with these lines, and so does the closed text of which it is the front: all of it, once the input has
-- ended.
closed_front : (ended : Bool) (input more : List ℕ) (lines : List (List ℕ)) (tail : List ℕ)
    → IsInput ended input (text_of lines ++ tail) → (ended ≡ true → more ≡ [])
    → (left : List ℕ) × (closed (input ++ more) ≡ text_of lines ++ left)
closed_front true input more lines tail e none =
    (tail, ap closed (ap (λ (t : List ℕ). input ++ t) (none refl) ∙ append-nil input) ∙ e)
closed_front false input more lines tail e none = (
  closed (tail ++ more),
  ap closed (ap (λ (t : List ℕ). t ++ more) e ∙ append_assoc (text_of lines) tail more)
      ∙ closed_more lines (tail ++ more),
)

lines_alone : (ended : Bool) (input : List ℕ) (lines : List (List ℕ)) → IsInput ended input (text_of lines)
    → IsInput ended input (text_of lines ++ [])
lines_alone ended input lines e = subst (IsInput ended input) (sym (append-nil (text_of lines))) e

-- ---- the items

-- the first records of a transmission, or all of them
some_first : (v : TransmissionValue) (records : List RecordValue) (others lines : List (List ℕ))
    → ((rest : List RecordValue) × (more : List (List ℕ)) × (records_of v ≡ records ++ rest) × (others ≡ lines ++ more))
    ⊎ (records_of v ≡ records) → (rest : List RecordValue) × (records_of v ≡ records ++ rest)
some_first v records others lines (inl (rest, more, split, d)) = (rest, split)
some_first v records others lines (inr same) = ([], same ∙ sym (append-nil records))

-- the items of its first records are the first of its items
items_begin : (limits : LimitValues) (v : TransmissionValue) (records rest : List RecordValue) → limits.records < 10 ^ 8
    → IsTransmission v → FitsIn limits v → records_of v ≡ records ++ rest
    → (more : List Item) × (value_items v ≡ items_so_far records ++ more)
items_begin limits v records rest few h fits e = (
  items_after (rows_so_far records) (rows_after records rest),
  sym (items_of_parts limits v h fits few) ∙ ap items (rows_split v records rest h e)
      ∙ items-append [] (rows_so_far records) (rows_after records rest),
)

-- the text is that of the transmission, and the lines of the records stand at its front
first_of : (tally : TallyValue) (lines : List (List ℕ)) (records : List RecordValue) (text left : List ℕ) (v : TransmissionValue)
    (n : ℕ) → AreInRange tally.limits → AreAccepted tally lines records
    → closed text ≡ text_of lines ++ left → IsAccepted tally.limits text v n
    → (more : List Item) × (value_items v ≡ items_so_far records ++ more)
first_of tally lines records text left v n range read e a =
    let others : List (List ℕ) = a.spelled.0 in
    let both : text_of lines ++ left ≡ text_of others ++ a.rest =
    sym e ∙ a.split ∙ ap (λ (t : List ℕ). t ++ a.rest) a.spelled.2 in
    let r =
    some_first v records others lines
    (first_records tally lines records v others left a.rest read a.whole a.spelled.1 both) in
    items_begin tally.limits v records r.0 (omega (arith, range.most_records)) a.whole a.within r.1

-- what was handed out are these items
said : (v : TransmissionValue) (given items : List Item) → given ≡ items → (more : List Item) × (value_items v ≡ items ++ more)
    → (rest : List Item) × (value_items v ≡ given ++ rest)
said v given items e first = (first.0, first.1 ∙ ap (λ (l : List Item). l ++ first.0) (sym e))

-- where a record waits, the transaction that it ends was handed out, and its own item is still to come
first_pending : (d : Standing) (input more : List ℕ) (given : List Item) (v : TransmissionValue) (n : ℕ)
    → AreInRange d.tally.limits → IsPending d input given → (d.finished ≡ true → more ≡ [])
    → IsAccepted d.tally.limits (input ++ more) v n → (rest : List Item) × (value_items v ≡ given ++ rest)
first_pending d input more given v n range p none a =
    let all : List RecordValue = p.records ++ p.last ∷ [] in
    let front = closed_front d.finished input more p.lines [] (lines_alone d.finished input p.lines p.split) none in
    let first = first_of d.tally p.lines all (input ++ more) front.0 v n range p.read front.1 a in
    let g = p.read.counted.within in
    let any : Continues Any (map symbol_of all) = (g.0, g.1, tt, g.3) in
    let few : length p.records ≤ 99999999 =
    omega (arith, range.most_records, accepted_few d.tally p.lines all p.read, length-append p.records (p.last ∷ [])) in
    let closes : Closes p.records p.last = ends_closes p.records p.last p.read.in_order any few p.ends in
    let own : List Item = item_of p.last.kind p.last in
    let whole : items_so_far all ≡ given ++ own = closes.given ∙ ap (λ (l : List Item). l ++ own) (sym p.given_are) in
    (own ++ first.0, first.1 ∙ ap (λ (l : List Item). l ++ first.0) whole ∙ append_assoc given own first.0)

first_through : (d : Standing) (input more : List ℕ) (given : List Item) (v : TransmissionValue) (n : ℕ)
    → AreInRange d.tally.limits → IsThrough d input given → (d.finished ≡ true → more ≡ [])
    → IsAccepted d.tally.limits (input ++ more) v n → (rest : List Item) × (value_items v ≡ given ++ rest)
first_through d input more given v n range t none a =
    let front = closed_front d.finished input more t.lines [] (lines_alone d.finished input t.lines t.split) none in
    said v given (items_so_far t.records) t.given_are
    (first_of d.tally t.lines t.records (input ++ more) front.0 v n range t.read front.1 a)

first_in : (state : State) (d : Standing) (input more : List ℕ) (given : List Item) (v : TransmissionValue) (n : ℕ)
    → AreInRange d.tally.limits → RepresentsIn state d input given → (d.finished ≡ true → more ≡ [])
    → IsAccepted d.tally.limits (input ++ more) v n → (rest : List Item) × (value_items v ≡ given ++ rest)
first_in states.Reading d input more given v n range r none a =
    let front = closed_front d.finished input more r.lines d.line.bytes r.split none in
    said v given (items_so_far r.records) r.given_are
    (first_of d.tally r.lines r.records (input ++ more) front.0 v n range r.read front.1 a)
first_in states.Pending d input more given v n range p none a = first_pending d input more given v n range p none a
first_in states.Ended d input more given v n range e none a = first_through d input more given v n range e.through none a
first_in (states.Refused refusal) d input more given v n range s none a =
    let front =
    closed_front s.input_ended input more s.lines (held_text s.line) s.split
    (λ (ended : s.input_ended ≡ true). none (s.late ended)) in
    said v given (items_so_far s.records) s.given_are
    (first_of d.tally s.lines s.records (input ++ more) front.0 v n range s.read front.1 a)
first_in (states.Truncated count) d input more given v n range c none a =
    first_through d input more given v n range c.through none a
first_in states.Memory d input more given v n range f none a = first_through d input more given v n range f.through none a

-- items that were handed out from the front of an accepted text
pub items_of_accepted : (d : Standing) (input more : List ℕ) (given : List Item) (v : TransmissionValue) (n : ℕ)
    → Represents d input given → (d.finished ≡ true → more ≡ [])
    → IsAccepted d.tally.limits (input ++ more) v n → (rest : List Item) × (value_items v ≡ given ++ rest)
items_of_accepted d input more given v n s none a = first_in d.state d input more given v n s.in_range s.here none a
