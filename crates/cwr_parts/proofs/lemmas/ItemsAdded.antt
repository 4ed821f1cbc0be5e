-- The items of a transmission, added one by one: each is right, its call of the encoder is no mistake, and its numbers stay small.
use Rattle.std.proofs.Common.{◌≡◌, ◌-◌, ◌≤◌, ℕ, Bool, true, false, not, cond, List, [], ◌∷◌, ◌++◌, length, map, refl, ap, ap₂}
use Rattle.std.proofs.Common.{◌∙◌, arith}
use Rattle.std.specs.Prelude.{Result, count_by}
use Rattle.std.specs.List.{AllByRecursion, after_last, flat_map, suffix_len}
use Rattle.std.proofs.lemmas.Grind.{flat_map-append}
use Rattle.std.proofs.lemmas.List.{length-append}
use Rattle.std.proofs.lemmas.List.Folds.{flat_map-map}
use Rattle.std.proofs.lemmas.List.Sums.{sum_by-append, sum_by-take-drop}
use Rattle.cwr_fields.specs.declared.codes.TransactionType.{TransactionType}
use Rattle.cwr_fields.specs.declared.kinds.Kind.TheVariants as kinds
use Rattle.cwr_lines.specs.Format.Records.{RecordValue}
use Rattle.cwr_shape.specs.declared.symbols.Symbol.{Symbol}
use Rattle.cwr_shape.specs.Format.Outlines.{Continues}
use Rattle.cwr_shape.specs.Format.AnyTransmission.{Any}
use Rattle.cwr_shape.specs.Format.NextSymbols.{open_type}
use Rattle.cwr_shape.specs.Steps.Tallies.{IsTallyOf, TallyValue}
use Rattle.cwr_values.specs.declared.items.Item.{Item}
use Rattle.cwr_values.specs.declared.items.Item.TheVariants.{Opened, GroupOpened, Transaction, GroupClosed, Ended}
use Rattle.cwr_values.specs.Format.Values.{GroupValue, TransmissionValue, IsGroup, IsTransaction, IsTransmission, symbol_of}
use Rattle.cwr_values.specs.Format.Values.{type_of}
use Rattle.cwr_values.specs.Format.Rows.{records_of, records_of_group, trailer}
use Rattle.cwr_judge.specs.Format.Items.{group_items, is_transaction, item_records, opens_group, records_in, value_items}
use Rattle.cwr_decode.proofs.lemmas.ItemsMakeOneTransmission.{has_header}
use Rattle.cwr_encode.specs.declared.encoders.EncodeFault.{EncodeFault}
use Rattle.cwr_encode.specs.Format.Encoders.{IsNoMistake}
use Rattle.cwr_encode.proofs.lemmas.NoMistakes.{no_mistake_foot, no_mistake_group, no_mistake_opening, no_mistake_transaction}
use Rattle.cwr_parts.specs.Steps.Joined.{JudgesItem}
use Rattle.cwr_parts.proofs.lemmas.OwnTypes.{own_type}

-- ---- the records of items

records_of_items : (g : GroupValue) → records_in (group_items g) ≡ records_of_group g
records_of_items g =
    ap (λ (rs : List RecordValue). g.head ∷ rs)
    (flat_map-append item_records (map Transaction g.transactions) (GroupClosed g.foot ∷ [])
    ∙ ap (λ (rs : List RecordValue). rs ++ g.foot ∷ []) (flat_map-map item_records Transaction g.transactions))

records_of_groups : (gs : List GroupValue) → records_in (flat_map group_items gs) ≡ flat_map records_of_group gs
records_of_groups [] = refl
records_of_groups (g ∷ gs) =
    flat_map-append item_records (group_items g) (flat_map group_items gs)
    ∙ ap₂ (λ (xs ys : List RecordValue). xs ++ ys) (records_of_items g) (records_of_groups gs)

-- a transmission's items have its records
pub records_in_value : (v : TransmissionValue) → records_in (value_items v) ≡ records_of v
records_in_value v =
    ap (λ (rs : List RecordValue). v.opening ∷ rs)
    (flat_map-append item_records (flat_map group_items v.groups) (Ended ∷ [])
    ∙ ap (λ (rs : List RecordValue). rs ++ trailer ∷ []) (records_of_groups v.groups))

pub records_in-append : (items more : List Item) → records_in (items ++ more) ≡ records_in items ++ records_in more
records_in-append items more = flat_map-append item_records items more

-- ---- right items

-- the item is of the right kind; a transaction is a whole one
abbrev pub IsRight : Item → Type 0
IsRight (Opened r) = r.kind ≡ kinds.Hdr
IsRight (GroupOpened r) = r.kind ≡ kinds.Grh
IsRight (Transaction t) = (ty : TransactionType) × IsTransaction ty t
IsRight (GroupClosed r) = r.kind ≡ kinds.Grt
IsRight Ended = Unit {0}

all_more : (xs ys : List Item) → AllByRecursion IsRight xs → AllByRecursion IsRight ys → AllByRecursion IsRight (xs ++ ys)
all_more [] ys h k = k
all_more (x ∷ xs) ys h k = (h.0, all_more xs ys h.1 k)

pub all_first : (xs ys : List Item) → AllByRecursion IsRight (xs ++ ys) → AllByRecursion IsRight xs
all_first [] ys h = tt
all_first (x ∷ xs) ys h = (h.0, all_first xs ys h.1)

pub all_second : (xs ys : List Item) → AllByRecursion IsRight (xs ++ ys) → AllByRecursion IsRight ys
all_second [] ys h = h
all_second (x ∷ xs) ys h = all_second xs ys h.1

right_transactions : (ty : TransactionType) (ts : List (List RecordValue)) → AllByRecursion (IsTransaction ty) ts
    → AllByRecursion IsRight (map Transaction ts)
right_transactions ty [] h = tt
right_transactions ty (t ∷ ts) h = ((ty, h.0), right_transactions ty ts h.1)

right_groups : (gs : List GroupValue) → AllByRecursion IsGroup gs → AllByRecursion IsRight (flat_map group_items gs)
right_groups [] h = tt
right_groups (g ∷ gs) h =
    all_more (group_items g) (flat_map group_items gs) (
      h.0.head.0,
      all_more (map Transaction g.transactions) (GroupClosed g.foot ∷ [])
          (right_transactions (type_of g.head) g.transactions h.0.each) (h.0.foot.0, tt),
    ) (right_groups gs h.1)

pub right_items : (v : TransmissionValue) → IsTransmission v → AllByRecursion IsRight (value_items v)
right_items v h = (h.opening.0, all_more (flat_map group_items v.groups) (Ended ∷ []) (right_groups v.groups h.each) (tt, tt))

-- ---- the call for an item

-- a transaction is of the open group's type
abbrev pub IsOwn : List Symbol → Item → Type 0
IsOwn xs (Transaction t) = IsTransaction (open_type xs) t
IsOwn xs item = IsRight item

-- an item that continues a transmission's is one
pub own_item : (v : TransmissionValue) (items : List Item) (item : Item) (rest : List Item) → IsTransmission v
    → value_items v ≡ (items ++ item ∷ []) ++ rest → IsRight item → IsOwn (map symbol_of (records_in items)) item
own_item v items (Transaction u) rest h e right = own_type v items u rest h e
own_item v items (Opened r) rest h e right = right
own_item v items (GroupOpened r) rest h e right = right
own_item v items (GroupClosed r) rest h e right = right
own_item v items Ended rest h e right = right

pub no_mistake : (t : TallyValue) (xs : List Symbol) (item : Item) (answer : Result (Unit {0}) EncodeFault) → IsTallyOf t xs
    → IsOwn xs item → Continues Any (xs ++ map symbol_of (item_records item))
    → JudgesItem t.limits item xs answer → IsNoMistake answer
no_mistake t xs (Opened r) answer s right more judged = no_mistake_opening t xs r answer s right more judged
no_mistake t xs (GroupOpened r) answer s right more judged = no_mistake_group t xs r answer s right more judged
no_mistake t xs (Transaction u) answer s right more judged =
    no_mistake_transaction t xs u answer s (has_header (open_type xs) u right) (open_type xs, right.1) more judged
no_mistake t xs (GroupClosed r) answer s right more judged = no_mistake_foot t xs r answer s right more judged
no_mistake t xs Ended answer s right more judged = absurd judged

-- ---- each right item has a record

has_record : (item : Item) → IsRight item → 1 ≤ length (item_records item)
has_record (Opened r) h = omega arith
has_record (GroupOpened r) h = omega arith
has_record (Transaction []) h = absurd (has_header h.0 [] h.1)
has_record (Transaction (r ∷ t)) h = omega arith
has_record (GroupClosed r) h = omega arith
has_record Ended h = omega arith

at_most_one : (b : Bool) → cond b 1 0 ≤ 1
at_most_one true = omega arith
at_most_one false = omega arith

-- so there are no more items of a kind than records
pub few_items : (test : Item → Bool) (items : List Item) → AllByRecursion IsRight items
    → count_by test items ≤ length (records_in items)
few_items test [] h = omega arith
few_items test (item ∷ items) h =
    omega (
      arith,
      at_most_one (test item),
      has_record item h.0,
      few_items test items h.1,
      length-append (item_records item) (records_in items),
      sum_by-append (λ (x : Item). cond (test x) 1 0) (item ∷ []) items,
    )

-- nor are there after the last GRH
pub few_after : (items : List Item) → AllByRecursion IsRight items
    → count_by is_transaction (after_last opens_group items) ≤ length (records_in items)
few_after items h =
    let n : ℕ = length items - suffix_len (λ (item : Item). not (opens_group item)) items in
    omega (arith, few_items is_transaction items h, sum_by-take-drop (λ (x : Item). cond (is_transaction x) 1 0) items n)
