-- An item is taken exactly where with it some transmission within the limits begins.
use Rattle.std.proofs.Common.{◌≡◌, ◌≢◌, ℕ, ◌<◌, List, [], ◌∷◌, ◌++◌, length, map, Option, Some, refl, sym, ap, subst, ◌∙◌, arith}
use Rattle.std.proofs.Common.{append_assoc, append-nil}
use Rattle.std.specs.Prelude.{Result, Ok, Err, OnOk, OnErr}
use Rattle.std.specs.List.{AllByRecursion, flat_map}
use Rattle.std.proofs.lemmas.List.{map-append}
use Rattle.cwr_fields.specs.declared.codes.TransactionType.{TransactionType}
use Rattle.cwr_fields.specs.declared.codes.TransactionType.TheVariants.{Agreement, NewWork, RevisedWork, Acknowledgement}
use Rattle.cwr_fields.specs.declared.kinds.Kind.TheVariants as kinds
use Rattle.cwr_lines.specs.Format.Records.{RecordValue, IsRecord}
use Rattle.cwr_shape.specs.declared.symbols.Symbol.{Symbol}
use Rattle.cwr_shape.specs.declared.symbols.Symbol.TheVariants.{Plain}
use Rattle.cwr_shape.specs.declared.limits.LimitKind.{LimitKind}
use Rattle.cwr_shape.specs.declared.limits.LimitKind.TheVariants as limit_kinds
use Rattle.cwr_shape.specs.Format.AnyTransmission.{Any}
use Rattle.cwr_shape.specs.Format.NextSymbols.{MayCome, header_kind, open_type}
use Rattle.cwr_shape.specs.Format.Numbers.{symbol_kind}
use Rattle.cwr_shape.specs.Format.Outlines.{Continues, IsWithin}
use Rattle.cwr_shape.specs.Format.Ranges.{LimitValues}
use Rattle.cwr_shape.specs.Format.Shapes.{IsShape}
use Rattle.cwr_shape.specs.Steps.Tallies.{IsTallyOf, TallyValue}
use Rattle.cwr_shape.proofs.lemmas.HeadFirst.{part_class, head_first}
use Rattle.cwr_values.specs.declared.items.Item.{Item}
use Rattle.cwr_values.specs.declared.items.Item.TheVariants.{Opened, GroupOpened, Transaction, GroupClosed, Ended}
use Rattle.cwr_values.specs.Format.Values.{GroupValue, TransmissionValue, IsTransaction, IsTransmission, symbol_of, outline_of}
use Rattle.cwr_values.specs.Format.Begun.{HasHeaderOf, IsBegun, IsWholeTransaction}
use Rattle.cwr_values.specs.Format.Rows.{records_of, trailer}
use Rattle.cwr_values.proofs.lemmas.Grouping.{of_type}
use Rattle.cwr_values.proofs.lemmas.OneSpelling.{symbols-outline, outline_whole}
use Rattle.cwr_judge.specs.Format.Items.{AreFirstItems, group_items, item_records, records_in, value_items}
use Rattle.cwr_judge.proofs.lemmas.NumberCells.{symbol_kind-of}
use Rattle.cwr_encode.specs.declared.encoders.Encoder.{Encoder}
use Rattle.cwr_encode.specs.declared.encoders.EncodeFault.{EncodeFault}
use Rattle.cwr_encode.specs.declared.encoders.EncodeFault.TheVariants as encode_faults
use Rattle.cwr_encode.specs.Format.Encoders.{IsInGroup, IsNoMistake, JudgesCall, MayBeginGroup, reached, reached_by}
use Rattle.cwr_encode.specs.Steps.Encoders.{AddsRecords, Encodes, encoder_limits}
use Rattle.cwr_encode.proofs.lemmas.Adding.{plain_symbol, reached-snoc}
use Rattle.cwr_encode.proofs.lemmas.Comes.{foot_comes, trailer_comes}
use Rattle.cwr_encode.proofs.lemmas.NoMistakes.{no_mistake_foot, no_mistake_group, no_mistake_opening, no_mistake_transaction}
use Rattle.cwr_encode.proofs.lemmas.Reaching.{reaches}
use Rattle.cwr_write.specs.declared.writing.Reached.{Reached}
use Rattle.cwr_write.specs.declared.writing.Reached.TheVariants as reached_to
use Rattle.cwr_write.specs.Format.Imports.{given_in, given_records}
use Rattle.cwr_write.specs.Steps.Taking.{IsNoWriter, JudgesGiven, JudgesNext, Stands, StandsWhole}
use Rattle.cwr_write.specs.Format.Faults.{JudgesItem, JudgesTrailer, reached_after, reached_with}
use Rattle.cwr_write.proofs.lemmas.ItemsInOrder.{AreOwn, IsOwnItem, begins_plain, begins_transaction, last_type, next_type}
use Rattle.cwr_write.proofs.lemmas.ItemsInOrder.{own_first}
use Rattle.cwr_write.proofs.lemmas.ItemsInOrder.{own_next, records_in_value, records_more, type_is}
use Rattle.std.proofs.lemmas.Grind.{flat_map-append}

-- ---- what a transmission within the limits begins with

split_records : (v : TransmissionValue) (items : List Item) (item : Item) (rest : List Item)
    → value_items v ≡ (items ++ item ∷ []) ++ rest → records_of v ≡ (records_in items ++ item_records item) ++ records_in rest
split_records v items item rest e =
    sym (records_in_value v) ∙ ap records_in e ∙ flat_map-append item_records (items ++ item ∷ []) rest
    ∙ ap (λ (l : List RecordValue). l ++ records_in rest) (records_more items item)

continues_with : (limits : LimitValues) (items : List Item) (item : Item) → AreFirstItems limits (items ++ item ∷ [])
    → Continues (IsWithin limits) (map symbol_of (records_in items) ++ map symbol_of (item_records item))
continues_with limits items item f =
    let before : List RecordValue = records_in items ++ item_records item in
    let e : records_of f.value ≡ before ++ records_in f.rest = split_records f.value items item f.rest f.split in
    let symbols = symbols-outline f.value f.whole ∙ ap (map symbol_of) e ∙ map-append symbol_of before (records_in f.rest) in
    subst (Continues (IsWithin limits)) (map-append symbol_of (records_in items) (item_records item))
    (outline_of f.value, outline_whole f.value f.whole, f.within, (map symbol_of (records_in f.rest), symbols))

any_of : (limits : LimitValues) (xs : List Symbol) → Continues (IsWithin limits) xs → Continues Any xs
any_of limits xs g = (g.0, g.1, tt, g.3)

-- no limit refuses it
unlimited : (limits : LimitValues) (comes right whole : Type 0) (xs added : List Symbol) (limit : LimitKind)
    → Continues (IsWithin limits) (xs ++ added)
    → JudgesCall {A = Unit {0}} comes right whole limits xs added (Err (encode_faults.Limit limit)) → ⊥
unlimited limits comes right whole xs added limit_kinds.Records g h = h.3.1 (g.0, g.1, g.2.0, g.3)
unlimited limits comes right whole xs added limit_kinds.Groups g h = h.3.1 (g.0, g.1, g.2.1, g.3)
unlimited limits comes right whole xs added limit_kinds.Transaction g h = h.3.2 (g.0, g.1, g.2.2, g.3)

header_named : (ty : TransactionType) (s : Symbol) → part_class ty s ≡ 1 → symbol_kind s ≡ header_kind ty
header_named Agreement (Plain kinds.Agr) h = refl
header_named NewWork (Plain kinds.Nwr) h = refl
header_named RevisedWork (Plain kinds.Rev) h = refl
header_named Acknowledgement (Plain kinds.Ack) h = refl
header_named ty s h = absurd (omega (arith, h))

has_header : (ty : TransactionType) (t : List RecordValue) → IsTransaction ty t → HasHeaderOf ty t
has_header ty [] h = absurd (cc (head_first ty [] h.1).whole)
has_header ty (r ∷ t) h =
    let f = head_first ty (symbol_of r ∷ map symbol_of t) h.1 in
    let first : symbol_of r ≡ f.head = cc f.whole in
    sym (symbol_kind-of r) ∙ header_named ty (symbol_of r) (ap (part_class ty) first ∙ f.is_head)

-- it is no mistake
right_call : (t : TallyValue) (xs : List Symbol) (item : Item) (answer : Result (Unit {0}) EncodeFault) → IsTallyOf t xs
    → IsOwnItem (open_type xs) item → (item ≡ Ended → ⊥) → Continues Any (xs ++ map symbol_of (item_records item))
    → JudgesGiven t.limits item xs answer → IsNoMistake answer
right_call t xs (Opened r) answer s right is more judged = no_mistake_opening t xs r answer s right more judged
right_call t xs (GroupOpened r) answer s right is more judged = no_mistake_group t xs r answer s right more judged
right_call t xs (Transaction u) answer s right is more judged =
    no_mistake_transaction t xs u answer s (has_header (open_type xs) u right) (open_type xs, right.1) more judged
right_call t xs (GroupClosed r) answer s right is more judged = no_mistake_foot t xs r answer s right more judged
right_call t xs Ended answer s right is more judged = absurd (is refl)

limit_call : (limits : LimitValues) (xs : List Symbol) (item : Item) (limit : LimitKind) → (item ≡ Ended → ⊥)
    → Continues (IsWithin limits) (xs ++ map symbol_of (item_records item))
    → JudgesGiven limits item xs (Err (encode_faults.Limit limit)) → ⊥
limit_call limits xs (Opened r) limit is g h = unlimited limits _ _ _ xs _ limit g h
limit_call limits xs (GroupOpened r) limit is g h = unlimited limits _ _ _ xs _ limit g h
limit_call limits xs (Transaction t) limit is g h = unlimited limits _ _ _ xs _ limit g h
limit_call limits xs (GroupClosed r) limit is g h = unlimited limits _ _ _ xs _ limit g h
limit_call limits xs Ended limit is g h = absurd (is refl)

own_by_type : (ty tz : TransactionType) (item : Item) → ty ≡ tz → IsOwnItem tz item → IsOwnItem ty item
own_by_type ty tz item e h = subst (λ (t : TransactionType). IsOwnItem t item) (sym e) h

-- where a transmission begins so, the call is answered well, or the writer failed
taken_call : {W : Type 0} (contents : W → Option (List ℕ)) (start : Option (List ℕ)) (items : List Item) (at : Reached)
    (item : Item) (e : Encoder W) (answer : Result (Unit {0}) EncodeFault) → Stands contents start items at e → at ≢
    reached_to.End → (item ≡ Ended → ⊥)
    → JudgesGiven (encoder_limits e) item (map symbol_of (given_in items)) answer
    → AreFirstItems (encoder_limits e) (items ++ item ∷ []) → IsNoMistake answer
taken_call contents start items at item e answer s on is judged f =
    let same : map symbol_of (records_in items) ≡ map symbol_of (given_in items) = ap (map symbol_of) (s.given.begun on) in
    let xs : List Symbol = map symbol_of (given_in items) in
    let goes : Continues (IsWithin (encoder_limits e)) (xs ++ map symbol_of (item_records item))
    = subst (λ (l : List Symbol). Continues (IsWithin (encoder_limits e)) (l ++ map symbol_of (item_records item))) same
    (continues_with (encoder_limits e) items item f) in
    let type : open_type xs ≡ last_type Acknowledgement items =
    ap open_type (sym same) ∙ type_is items (own_first (encoder_limits e) items s.first) in
    right_call e.tally xs item answer s.encodes.counted
    (own_by_type (open_type xs) (last_type Acknowledgement items) item type (own_next (encoder_limits e) items item f)) is
    (any_of (encoder_limits e) (xs ++ map symbol_of (item_records item)) goes) judged

limited_call : {W : Type 0} (contents : W → Option (List ℕ)) (start : Option (List ℕ)) (items : List Item) (at : Reached)
    (item : Item) (e : Encoder W) (limit : LimitKind) → Stands contents start items at e → at ≢ reached_to.End
    → (item ≡ Ended → ⊥)
    → JudgesGiven (encoder_limits e) item (map symbol_of (given_in items)) (Err (encode_faults.Limit limit))
    → AreFirstItems (encoder_limits e) (items ++ item ∷ []) → ⊥
limited_call contents start items at item e limit s on is judged f =
    let same : map symbol_of (records_in items) ≡ map symbol_of (given_in items) = ap (map symbol_of) (s.given.begun on) in
    limit_call (encoder_limits e) (map symbol_of (given_in items)) item limit is
    (subst (λ (l : List Symbol). Continues (IsWithin (encoder_limits e)) (l ++ map symbol_of (item_records item))) same
    (continues_with (encoder_limits e) items item f)) judged

-- ---- what was accepted

record Accepted (limits : LimitValues) (items : List Item) (item : Item) : Type 0 where
  in_order : AllByRecursion IsRecord (records_in items ++ item_records item)
  within : Continues (IsWithin limits) (map symbol_of (records_in items ++ item_records item))

all_second : (rs qs : List RecordValue) → AllByRecursion IsRecord (rs ++ qs) → AllByRecursion IsRecord qs
all_second [] qs h = h
all_second (r ∷ rs) qs h = all_second rs qs h.1

whole_begun : (t : List RecordValue) → AllByRecursion IsRecord t → IsWholeTransaction t → IsBegun t
whole_begun t h w = record { each = h; begins = (w.0, [], subst (IsShape w.0) (sym (append-nil (map symbol_of t))) w.1) }

accepted_plain : (limits : LimitValues) (items : List Item) (item : Item) → AreFirstItems limits items
    → IsOwnItem (last_type Acknowledgement items) item → ((t : List RecordValue) → item ≡ Transaction t → ⊥)
    → Accepted limits items item → AreFirstItems limits (items ++ item ∷ [])
accepted_plain limits items item f is plain a =
    begins_plain limits items item (own_first limits items f) is plain a.in_order a.within

accepted_transaction : {W : Type 0} (contents : W → Option (List ℕ)) (start : Option (List ℕ)) (items : List Item)
    (t : List RecordValue) (old new : Encoder W) (x : Unit {0}) → Encodes contents start (records_in items) old → AreFirstItems
    (encoder_limits old) items
    → encoder_limits new ≡ encoder_limits old → Encodes contents start (records_in items ++ t) new
    → JudgesGiven (encoder_limits old) (Transaction t) (map symbol_of (records_in items)) (Ok x)
    → AreFirstItems (encoder_limits old) (items ++ Transaction t ∷ [])
accepted_transaction contents start items t old new x before first same after judged =
    let xs : List Symbol = map symbol_of (records_in items) in
    let own = own_first (encoder_limits old) items first in
    let each : AllByRecursion IsRecord t = all_second (records_in items) t after.in_order in
    let here : IsTransaction (open_type xs) t = of_type (open_type xs) t (whole_begun t each judged.2) judged.1 judged.2 in
    let is : IsTransaction (last_type Acknowledgement items) t =
    subst (λ (ty : TransactionType). IsTransaction ty t) (type_is items own) here in
    let reach = reaches old.tally xs (map symbol_of t) (open_type xs) before.counted refl judged.0 before.between here.1 in
    let ends : Continues Any (map symbol_of (records_in items ++ t) ++ Plain kinds.Grt ∷ []) =
    subst (λ (l : List Symbol). Continues Any (l ++ Plain kinds.Grt ∷ [])) (sym (map-append symbol_of (records_in items) t))
    reach.ends in
    let comes = foot_comes new.tally (map symbol_of (records_in items ++ t)) after.counted ends in
    begins_transaction (encoder_limits old) items t own is after.in_order
    (subst (λ (l : LimitValues). MayCome l (map symbol_of (records_in items ++ t)) (Plain kinds.Grt)) same comes)

accepted_call : {W : Type 0} (contents : W → Option (List ℕ)) (start : Option (List ℕ)) (items : List Item) (item : Item)
    (old new : Encoder W) (x : Unit {0}) → Encodes contents start (records_in items) old → AreFirstItems (encoder_limits old)
    items → (item ≡ Ended → ⊥)
    → encoder_limits new ≡ encoder_limits old → Encodes contents start (records_in items ++ given_records item) new
    → JudgesGiven (encoder_limits old) item (map symbol_of (records_in items)) (Ok x)
    → AreFirstItems (encoder_limits old) (items ++ item ∷ [])
accepted_call contents start items item old new x before first is same after judged = by item is after judged
  where
    limits : LimitValues
    limits = encoder_limits old

    with_limits : (i : Item) → Encodes contents start (records_in items ++ item_records i) new → Accepted limits items i
    with_limits i a =
        record {
          in_order = a.in_order;
          within = subst
              (λ (l : LimitValues). Continues (IsWithin l) (map symbol_of (records_in items ++ item_records i))) same
              a.counted.within;
        }

    by : (i : Item) → (i ≡ Ended → ⊥) → Encodes contents start (records_in items ++ given_records i) new
        → JudgesGiven (encoder_limits old) i (map symbol_of (records_in items)) (Ok x)
        → AreFirstItems (encoder_limits old) (items ++ i ∷ [])
    by (Opened r) is after judged =
        accepted_plain limits items (Opened r) first judged.1 (λ t e. absurd (cc e)) (with_limits (Opened r) after)
    by (GroupOpened r) is after judged =
        accepted_plain limits items (GroupOpened r) first judged.1 (λ t e. absurd (cc e)) (with_limits (GroupOpened r) after)
    by (GroupClosed r) is after judged =
        accepted_plain limits items (GroupClosed r) first judged.1 (λ t e. absurd (cc e)) (with_limits (GroupClosed r) after)
    by (Transaction t) is after judged = accepted_transaction contents start items t old new x before first same after judged
    by Ended is after judged = absurd (is refl)

-- ---- the answer for an item that an encoder is given

given_judged : (limits : LimitValues) (items : List Item) (item : Item) (answer : Result (Unit {0}) EncodeFault)
    → records_in items ≡ given_in items → (item ≡ Ended → ⊥) → JudgesGiven limits item (map symbol_of (given_in items)) answer
    → JudgesItem limits items item answer
given_judged limits items item answer same is judged =
    by item is (subst (λ (l : List RecordValue). JudgesGiven limits item (map symbol_of l) answer) (sym same) judged)
  where
    by : (i : Item) → (i ≡ Ended → ⊥) → JudgesGiven limits i (map symbol_of (records_in items)) answer
        → JudgesItem limits items i answer
    by (Opened r) is j = j
    by (GroupOpened r) is j = j
    by (Transaction t) is j = j
    by (GroupClosed r) is j = j
    by Ended is j = absurd (is refl)

-- the writer fails with an item that is taken
judged_well : (limits : LimitValues) (item : Item) (xs : List Symbol) (written : ℕ)
    → JudgesGiven limits item xs (Err (encode_faults.Writer written)) → JudgesGiven limits item xs (Ok tt)
judged_well limits (Opened r) xs written j = j
judged_well limits (GroupOpened r) xs written j = j
judged_well limits (Transaction t) xs written j = j
judged_well limits (GroupClosed r) xs written j = j
judged_well limits Ended xs written j = j

pub next_given : {W : Type 0} (contents : W → Option (List ℕ)) (failures : W → ℕ) (start : Option (List ℕ)) (items : List Item)
    (at : Reached) (item : Item) (old new : Encoder W) (answer : Result (Unit {0}) EncodeFault) → Stands contents start items at
    old → at ≢ reached_to.End
    → (item ≡ Ended → ⊥) → AddsRecords contents failures (given_records item) answer old new
    → encoder_limits new ≡ encoder_limits old → JudgesGiven (encoder_limits old) item (map symbol_of (given_in items)) answer
    → JudgesNext (encoder_limits old) items item answer
next_given contents failures start items at item old new (Ok x) s on is adds same judged =
    let e : given_in items ≡ records_in items = sym (s.given.begun on) in
    accepted_call contents start items item old new x (subst (λ (l : List RecordValue). Encodes contents start l old) e s.encodes)
    s.first is same
    (subst (λ (l : List RecordValue). Encodes contents start (l ++ given_records item) new) e
    (adds.0 start (given_in items) s.encodes))
    (subst (λ (l : List RecordValue). JudgesGiven (encoder_limits old) item (map symbol_of l) (Ok x)) e judged)
next_given contents failures start items at item old new (Err (encode_faults.Writer written)) s on is adds same judged =
    let e : given_in items ≡ records_in items = sym (s.given.begun on) in (
      is,
      accepted_call contents start items item old new tt
          (subst (λ (l : List RecordValue). Encodes contents start l old) e s.encodes) s.first is same
          (subst (λ (l : List RecordValue). Encodes contents start (l ++ given_records item) new) e
          (adds.0 start (given_in items) s.encodes))
          (subst (λ (l : List RecordValue). JudgesGiven (encoder_limits old) item (map symbol_of l) (Ok tt)) e
          (judged_well (encoder_limits old) item (map symbol_of (given_in items)) written judged)),
    )
next_given contents failures start items at item old new (Err encode_faults.OutOfOrder) s on is adds same judged = (
  (λ f. taken_call contents start items at item old (Err encode_faults.OutOfOrder) s on is judged f),
  given_judged (encoder_limits old) items item (Err encode_faults.OutOfOrder) (s.given.begun on) is judged,
)
next_given contents failures start items at item old new (Err encode_faults.WrongKind) s on is adds same judged = (
  (λ f. taken_call contents start items at item old (Err encode_faults.WrongKind) s on is judged f),
  given_judged (encoder_limits old) items item (Err encode_faults.WrongKind) (s.given.begun on) is judged,
)
next_given contents failures start items at item old new (Err encode_faults.Incomplete) s on is adds same judged = (
  (λ f. taken_call contents start items at item old (Err encode_faults.Incomplete) s on is judged f),
  given_judged (encoder_limits old) items item (Err encode_faults.Incomplete) (s.given.begun on) is judged,
)
next_given contents failures start items at item old new (Err (encode_faults.Limit limit)) s on is adds same judged = (
  (λ f. limited_call contents start items at item old limit s on is judged f),
  given_judged (encoder_limits old) items item (Err (encode_faults.Limit limit)) (s.given.begun on) is judged,
)

-- ---- TRL's line, and what comes after it

reached-append : (a : Reached) (xs ys : List Item) → reached_after a (xs ++ ys) ≡ reached_after (reached_after a xs) ys
reached-append a [] ys = refl
reached-append a (x ∷ xs) ys = reached-append (reached_with x) xs ys

pub reached-snoc-item : (a : Reached) (items : List Item) (item : Item) → reached_after a (items ++ item ∷ []) ≡ reached_with item
reached-snoc-item a items item = reached-append a items (item ∷ [])

abbrev Unended : Item → Type 0
Unended Ended = ⊥
Unended item = Unit {0}

front_of : TransmissionValue → List Item
front_of v = Opened v.opening ∷ flat_map group_items v.groups

whole_front : (v : TransmissionValue) → value_items v ≡ front_of v ++ Ended ∷ []
unfolding front_of
whole_front v = refl

unended_both : (xs ys : List Item) → AllByRecursion Unended xs → AllByRecursion Unended ys → AllByRecursion Unended (xs ++ ys)
unended_both [] ys h k = k
unended_both (x ∷ xs) ys h k = (h.0, unended_both xs ys h.1 k)

unended_transactions : (ts : List (List RecordValue)) → AllByRecursion Unended (map Transaction ts)
unended_transactions [] = tt
unended_transactions (t ∷ ts) = (tt, unended_transactions ts)

unended_groups : (gs : List GroupValue) → AllByRecursion Unended (flat_map group_items gs)
unended_groups [] = tt
unended_groups (g ∷ gs) =
    unended_both (group_items g) (flat_map group_items gs)
    (tt, unended_both (map Transaction g.transactions) (GroupClosed g.foot ∷ []) (unended_transactions g.transactions) (tt, tt))
    (unended_groups gs)

unended_front : (v : TransmissionValue) → AllByRecursion Unended (front_of v)
unfolding front_of
unended_front v = (tt, unended_groups v.groups)

some_after : (xs : List Item) (x : Item) (rest : List Item) → [] ≡ xs ++ x ∷ rest → ⊥
some_after [] x rest e = cc e
some_after (y ∷ xs) x rest e = cc e

ends_once : (front items rest : List Item) → AllByRecursion Unended front → front ++ Ended ∷ [] ≡ items ++ Ended ∷ rest
    → front ≡ items
ends_once [] [] rest h e = refl
ends_once [] (j ∷ items) rest h e = absurd (some_after items Ended rest (cc e))
ends_once (f ∷ front) [] rest h e = let is : f ≡ Ended = cc e in absurd (subst Unended is h.0)
ends_once (f ∷ front) (j ∷ items) rest h e =
    let head : f ≡ j = cc e in
    let tail : front ++ Ended ∷ [] ≡ items ++ Ended ∷ rest = cc e in
    ap (λ (l : List Item). f ∷ l) (ends_once front items rest h.1 tail) ∙ ap (λ (x : Item). x ∷ items) head

not_ended : (item : Item) → Unended item → reached_with item ≢ reached_to.End
not_ended (Opened r) h = λ e. cc e
not_ended (GroupOpened r) h = λ e. cc e
not_ended (Transaction t) h = λ e. cc e
not_ended (GroupClosed r) h = λ e. cc e
not_ended Ended h = absurd h

after_end : (front items : List Item) (x : Item) (rest : List Item) (a : Reached) → AllByRecursion Unended front
    → front ++ Ended ∷ [] ≡ items ++ x ∷ rest → a ≢ reached_to.End → reached_after a items ≢ reached_to.End
after_end front [] x rest a h e n = n
after_end [] (j ∷ items) x rest a h e n = absurd (some_after items x rest (cc e))
after_end (f ∷ front) (j ∷ items) x rest a h e n =
    let head : f ≡ j = cc e in
    let tail : front ++ Ended ∷ [] ≡ items ++ x ∷ rest = cc e in
    after_end front items x rest (reached_with j) h.1 tail (not_ended j (subst Unended head h.0))

begun_not_ended : reached_to.Begun ≢ reached_to.End
begun_not_ended e = cc e

-- nothing comes after TRL
pub none_after_end : (limits : LimitValues) (items : List Item) (item : Item)
    → reached_to.End ≡ reached_after reached_to.Begun items → ¬ AreFirstItems limits (items ++ item ∷ [])
none_after_end limits items item ended f =
    after_end (front_of f.value) items item f.rest reached_to.Begun (unended_front f.value)
    (sym (whole_front f.value) ∙ f.split ∙ append_assoc items (item ∷ []) f.rest) begun_not_ended (sym ended)

-- whatever it is, it is out of order
pub judged_after_end : {W : Type 0} (contents : W → Option (List ℕ)) (start : Option (List ℕ)) (items : List Item) (e : Encoder W)
    (item : Item) → Stands contents start items reached_to.End e → JudgesItem (encoder_limits e) items item
    (Err encode_faults.OutOfOrder)
judged_after_end contents start items e item s = by item
  where
    xs : List Symbol
    xs = map symbol_of (records_in items)

    last : reached xs ≡ reached_by (Some (Plain kinds.Trl))
    last =
        ap (λ (l : List RecordValue). reached (map symbol_of l)) (s.given.ended refl)
        ∙ ap reached (map-append symbol_of (given_in items) (trailer ∷ []))
        ∙ reached-snoc (map symbol_of (given_in items)) (Plain kinds.Trl)

    by : (i : Item) → JudgesItem (encoder_limits e) items i (Err encode_faults.OutOfOrder)
    by (Opened r) = λ h. cc (sym last ∙ h)
    by (GroupOpened r) = λ h. subst MayBeginGroup last h
    by (Transaction t) = λ h. subst IsInGroup last h
    by (GroupClosed r) = λ h. subst IsInGroup last h
    by Ended = ((λ h. cc (s.reached_is ∙ h)), λ h. cc (s.reached_is ∙ h))

groups_foot : (gs : List GroupValue) → reached_after reached_to.GroupFoot (flat_map group_items gs) ≡ reached_to.GroupFoot
groups_foot [] = refl
groups_foot (g ∷ gs) =
    reached-append reached_to.GroupFoot (group_items g) (flat_map group_items gs)
    ∙ ap (λ (a : Reached). reached_after a (flat_map group_items gs))
    (reached-append reached_to.Begun (map Transaction g.transactions) (GroupClosed g.foot ∷ []))
    ∙ groups_foot gs

some_groups_foot : (a : Reached) (gs : List GroupValue) → 0 < length gs
    → reached_after a (flat_map group_items gs) ≡ reached_to.GroupFoot
some_groups_foot a [] h = absurd (omega (arith, h))
some_groups_foot a (g ∷ gs) h =
    reached-append a (group_items g) (flat_map group_items gs)
    ∙ ap (λ (b : Reached). reached_after b (flat_map group_items gs))
    (reached-append reached_to.Begun (map Transaction g.transactions) (GroupClosed g.foot ∷ []))
    ∙ groups_foot gs

front_foot : (v : TransmissionValue) → IsTransmission v → reached_after reached_to.Begun (front_of v) ≡ reached_to.GroupFoot
unfolding front_of
front_foot v h = some_groups_foot reached_to.Opening v.groups h.some_group

-- TRL comes after GRT alone
foot_before : (limits : LimitValues) (items : List Item) → AreFirstItems limits (items ++ Ended ∷ [])
    → reached_after reached_to.Begun items ≡ reached_to.GroupFoot
foot_before limits items f =
    let same : front_of f.value ≡ items =
    ends_once (front_of f.value) items f.rest (unended_front f.value)
    (sym (whole_front f.value) ∙ f.split ∙ append_assoc items (Ended ∷ []) f.rest) in
    ap (reached_after reached_to.Begun) (sym same) ∙ front_foot f.value f.whole

-- and after GRT it may
foot_reached : (ty : TransactionType) (xs : List Symbol) (a : Reached) (items : List Item) → AreOwn ty items
    → (a ≡ reached_to.GroupFoot → reached xs ≡ reached_by (Some (Plain kinds.Grt))) → reached_after a items ≡ reached_to.GroupFoot
    → reached (xs ++ map symbol_of (records_in items)) ≡ reached_by (Some (Plain kinds.Grt))
foot_reached ty xs a [] own h e = ap reached (append-nil xs) ∙ h e
foot_reached ty xs a (i ∷ items) own h e =
    ap reached (ap (λ (l : List Symbol). xs ++ l) (map-append symbol_of (item_records i) (records_in items))
    ∙ sym (append_assoc xs (map symbol_of (item_records i)) (map symbol_of (records_in items))))
    ∙ foot_reached (next_type ty i) (xs ++ map symbol_of (item_records i)) (reached_with i) items own.1 (step i own.0) e
  where
    step : (i : Item) → IsOwnItem ty i → reached_with i ≡ reached_to.GroupFoot
        → reached (xs ++ map symbol_of (item_records i)) ≡ reached_by (Some (Plain kinds.Grt))
    step (GroupClosed r) k is =
        reached-snoc xs (symbol_of r) ∙ ap (λ (s : Symbol). reached_by (Some s)) (plain_symbol r kinds.Grt k refl)
    step (Opened r) k is = absurd (cc is)
    step (GroupOpened r) k is = absurd (cc is)
    step (Transaction t) k is = absurd (cc is)
    step Ended k is = absurd (cc is)

all_with : (rs : List RecordValue) → AllByRecursion IsRecord rs → AllByRecursion IsRecord (rs ++ trailer ∷ [])
all_with [] h = (tt, tt)
all_with (r ∷ rs) h = (h.0, all_with rs h.1)

trailer_taken : {W : Type 0} (contents : W → Option (List ℕ)) (start : Option (List ℕ)) (items : List Item) (e : Encoder W)
    → Stands contents start items reached_to.GroupFoot e → AreFirstItems (encoder_limits e) (items ++ Ended ∷ [])
trailer_taken contents start items e s =
    let own = own_first (encoder_limits e) items s.first in
    let same : given_in items ≡ records_in items = sym (s.given.begun (λ h. cc h)) in
    let encodes : Encodes contents start (records_in items) e =
    subst (λ (l : List RecordValue). Encodes contents start l e) same s.encodes in
    let xs : List Symbol = map symbol_of (records_in items) in
    let at : reached xs ≡ reached_by (Some (Plain kinds.Grt)) =
    foot_reached Acknowledgement [] reached_to.Begun items own (λ h. absurd (cc h)) (sym s.reached_is) in
    let comes : MayCome (encoder_limits e) xs (Plain kinds.Trl) = (trailer_comes e.tally xs encodes.counted at).0 in
    begins_plain (encoder_limits e) items Ended own tt (λ t h. absurd (cc h)) (all_with (records_in items) encodes.in_order)
    (subst (Continues (IsWithin (encoder_limits e))) (sym (map-append symbol_of (records_in items) (trailer ∷ []))) comes)

pub next_trailer : {W : Type 0} (contents : W → Option (List ℕ)) (start : Option (List ℕ)) (items : List Item) (at : Reached)
    (item : Item) (e : Encoder W) (answer : Result (Unit {0}) EncodeFault) → Stands contents start items at e → item ≡ Ended
    → OnOk answer (at ≡ reached_to.GroupFoot) → OnErr answer (at ≢ reached_to.GroupFoot) → OnErr answer (JudgesTrailer at answer)
    → IsNoWriter answer → JudgesNext (encoder_limits e) items item answer
next_trailer {W = W} contents start items at item e answer s is ok err judged own =
    subst (λ (i : Item). JudgesNext (encoder_limits e) items i answer) (sym is) (by answer ok err judged own)
  where
    refused : at ≢ reached_to.GroupFoot → ¬ AreFirstItems (encoder_limits e) (items ++ Ended ∷ [])
    refused n f = n (s.reached_is ∙ foot_before (encoder_limits e) items f)

    told : (a : Result (Unit {0}) EncodeFault) → JudgesTrailer at a → JudgesItem (encoder_limits e) items Ended a
    told a j = subst (λ (r : Reached). JudgesTrailer r a) s.reached_is j

    by : (a : Result (Unit {0}) EncodeFault) → OnOk a (at ≡ reached_to.GroupFoot) → OnErr a (at ≢ reached_to.GroupFoot)
        → OnErr a (JudgesTrailer at a) → IsNoWriter a → JudgesNext (encoder_limits e) items Ended a
    by (Ok x) ok err j own = trailer_taken contents start items e (subst (λ (r : Reached). Stands contents start items r e) ok s)
    by (Err encode_faults.OutOfOrder) ok err j own = (refused err, told (Err encode_faults.OutOfOrder) j)
    by (Err encode_faults.WrongKind) ok err j own = absurd j
    by (Err encode_faults.Incomplete) ok err j own = (refused err, told (Err encode_faults.Incomplete) j)
    by (Err (encode_faults.Limit limit)) ok err j own = absurd j
    by (Err (encode_faults.Writer written)) ok err j own = absurd own

pub next_after_end : {W : Type 0} (contents : W → Option (List ℕ)) (start : Option (List ℕ)) (items : List Item) (at : Reached)
    (item : Item) (e : Encoder W) → Stands contents start items at e → at ≡ reached_to.End
    → JudgesNext (encoder_limits e) items item (Err encode_faults.OutOfOrder)
next_after_end contents start items at item e s ended =
    let there = subst (λ (r : Reached). Stands contents start items r e) ended s in
    (none_after_end (encoder_limits e) items item there.reached_is, judged_after_end contents start items e item there)

pub open_at_foot : {E : Type 0} (at : Reached) (answer : Result (Unit {0}) E) → OnOk answer (at ≡ reached_to.GroupFoot)
    → OnOk answer (at ≢ reached_to.End)
open_at_foot at (Ok x) h = λ e. cc (sym h ∙ e)
open_at_foot at (Err f) h = tt

-- ---- the whole

no_rest : (limits : LimitValues) (items : List Item) (f : AreFirstItems limits items)
    → reached_to.End ≡ reached_after reached_to.Begun items → f.rest ≡ []
no_rest limits items f ended = by f.rest f.split
  where
    by : (rest : List Item) → value_items f.value ≡ items ++ rest → rest ≡ []
    by [] e = refl
    by (x ∷ rest) e =
        absurd (after_end (front_of f.value) items x rest reached_to.Begun (unended_front f.value) (sym (whole_front f.value) ∙ e)
        begun_not_ended (sym ended))

pub stands_whole : {W : Type 0} (contents : W → Option (List ℕ)) (start : Option (List ℕ)) (items : List Item) (at : Reached)
    (e : Encoder W) → Stands contents start items at e → at ≡ reached_to.End → StandsWhole contents items e
stands_whole contents start items at e s ended =
    let f = s.first in
    record {
      start = start;
      encodes = s.encodes;
      value = f.value;
      whole = f.whole;
      within = f.within;
      items_are =
          f.split ∙ ap (λ (l : List Item). items ++ l) (no_rest (encoder_limits e) items f (sym ended ∙ s.reached_is))
          ∙ append-nil items;
    }

-- a transmission's items come to its end
pub value_ends : (v : TransmissionValue) → reached_after reached_to.Begun (value_items v) ≡ reached_to.End
value_ends v = reached-append reached_to.Opening (flat_map group_items v.groups) (Ended ∷ [])

-- the trailer may come where just that is left
pub trailer_left : {W : Type 0} (contents : W → Option (List ℕ)) (items : List Item) (e : Encoder W)
    (w : StandsWhole contents items e) → records_in items ≡ given_in items ++ trailer ∷ [] → MayCome (encoder_limits e)
    (map symbol_of (given_in items)) (Plain kinds.Trl)
trailer_left contents items e w left =
    let rs : List RecordValue = given_in items ++ trailer ∷ [] in
    let all : records_of w.value ≡ rs = sym (records_in_value w.value) ∙ ap records_in w.items_are ∙ left in
    let symbols = symbols-outline w.value w.whole ∙ ap (map symbol_of) all in
    subst (Continues (IsWithin (encoder_limits e))) (map-append symbol_of (given_in items) (trailer ∷ []))
    (outline_of w.value, outline_whole w.value w.whole, w.within, ([], symbols ∙ sym (append-nil (map symbol_of rs))))
