-- The items so far have just the records that were read, but for those of the open transaction, and so there are no more
-- items than records. A transmission's items have as many records as it has rows, and as many groups and transactions as
-- it has itself.
use Rattle.std.proofs.Common.{◌≡◌, ℕ, ◌+◌, ◌≤◌, Bool, true, false, cond, List, [], ◌∷◌, ◌++◌, length, map, refl, sym, ap, ap₂}
use Rattle.std.proofs.Common.{subst, ◌∙◌, arith, append_assoc, append-nil}
use Rattle.std.specs.Prelude.{sum_by, count_by}
use Rattle.std.specs.List.{AllByRecursion, flat_map}
use Rattle.std.proofs.lemmas.Grind.{flat_map-append}
use Rattle.std.proofs.lemmas.List.{length-append, length-map, map-append}
use Rattle.std.proofs.lemmas.List.Folds.{flat_map-map}
use Rattle.std.proofs.lemmas.List.Sums.{sum_by-cons, sum_by-append}
use Rattle.cwr_fields.specs.declared.kinds.Kind.{Kind}
use Rattle.cwr_fields.specs.declared.kinds.Kind.TheVariants as kinds
use Rattle.cwr_lines.specs.Format.Records.{RecordValue, IsRecord}
use Rattle.cwr_shape.specs.declared.symbols.Symbol.{Symbol}
use Rattle.cwr_shape.specs.Format.Ranges.{AreInRange}
use Rattle.cwr_shape.specs.Format.Outlines.{Continues}
use Rattle.cwr_shape.specs.Format.AnyTransmission.{Any}
use Rattle.cwr_shape.specs.Steps.Tallies.{TallyValue}
use Rattle.cwr_values.specs.declared.items.Item.{Item}
use Rattle.cwr_values.specs.declared.items.Item.TheVariants.{Opened, GroupOpened, Transaction, GroupClosed, Ended}
use Rattle.cwr_values.specs.Format.Values.{GroupValue, TransmissionValue, symbol_of}
use Rattle.cwr_values.specs.Format.Rows.{rows, records_of, records_of_group, trailer}
use Rattle.cwr_values.proofs.lemmas.OneTransmissionOfRecords.{is_trailer}
use Rattle.cwr_values.proofs.lemmas.Spelling.{length-rows}
use Rattle.cwr_decode.specs.declared.machine.State.{State}
use Rattle.cwr_decode.specs.declared.machine.State.TheVariants as states
use Rattle.cwr_fields.specs.Format.Kinds.{is_in_transaction}
use Rattle.cwr_judge.specs.Format.Items.{group_items, value_items, item_records, records_in, opens_group, is_transaction}
use Rattle.cwr_decode.specs.Steps.Machines.{Standing}
use Rattle.cwr_judge.specs.Steps.Open.{items_so_far, open_of, continues_open, ended_transaction, item_of}
use Rattle.cwr_decode.specs.Steps.Represents.{AreAccepted, IsThrough, Represents, RepresentsIn}
use Rattle.cwr_decode.proofs.lemmas.AfterRecord.{few_records}
use Rattle.cwr_judge.proofs.lemmas.EndingRecord.{ends_closes}
use Rattle.cwr_judge.proofs.lemmas.ContinuingRecord.{continuing_stays, no_open, no_items}
use Rattle.cwr_judge.proofs.lemmas.ItemsOfTransactions.{all_last}

-- ---- fronts

all_front : (P : RecordValue → Type 0) (xs ys : List RecordValue) → AllByRecursion P (xs ++ ys) → AllByRecursion P xs
all_front P [] ys h = tt
all_front P (x ∷ xs) ys h = (h.0, all_front P xs ys h.1)

-- a front of what continues continues
front_goes : (xs ys : List Symbol) → Continues Any (xs ++ ys) → Continues Any xs
front_goes xs ys (groups, whole, any, more) = (groups, whole, any, (ys ++ more.0, more.1 ∙ append_assoc xs ys more.0))

-- ---- the item of the open transaction

-- it has just the open records
records_handed : (rs : List RecordValue) → records_in (ended_transaction rs) ≡ rs
records_handed [] = refl
records_handed (r ∷ rs) = append-nil (r ∷ rs)

-- and is one at most
few_handed : (rs : List RecordValue) → length (ended_transaction rs) ≤ 1
few_handed [] = omega arith
few_handed (r ∷ rs) = omega arith

-- ---- record by record

-- The items and the open transaction have the records, in order, and with the item of that transaction there are no more
-- items than records.
record Counts (records : List RecordValue) : Type 0 where
  all : records_in (items_so_far records) ++ open_of records ≡ records
  few : length (items_so_far records) + length (ended_transaction (open_of records)) ≤ length records

-- a record after which the open transaction was handed out is in its own item, or begins a transaction
own_record : (kind : Kind) (r : RecordValue) → r.kind ≡ kind → IsRecord r
    → records_in (item_of kind r) ++ cond (is_in_transaction kind) (r ∷ []) [] ≡ r ∷ []
own_record kinds.Hdr r e h = refl
own_record kinds.Grh r e h = refl
own_record kinds.Grt r e h = refl
own_record kinds.Trl r e h = ap (λ (x : RecordValue). x ∷ []) (sym (is_trailer r e h))
own_record kind r e h = refl

own_few : (kind : Kind) (r : RecordValue)
    → length (item_of kind r) + length (ended_transaction (cond (is_in_transaction kind) (r ∷ []) [])) ≤ 1
own_few kinds.Hdr r = omega arith
own_few kinds.Grh r = omega arith
own_few kinds.Grt r = omega arith
own_few kinds.Trl r = omega arith
own_few kind r = omega arith

-- the items with that of the open transaction have the records
records_with_open : (records : List RecordValue) → records_in (items_so_far records) ++ open_of records ≡ records
    → records_in (items_so_far records ++ ended_transaction (open_of records)) ≡ records
records_with_open records all =
    flat_map-append item_records (items_so_far records) (ended_transaction (open_of records))
    ∙ ap (λ (rs : List RecordValue). records_in (items_so_far records) ++ rs) (records_handed (open_of records))
    ∙ all

counts_stay : (records : List RecordValue) (r : RecordValue) → AllByRecursion IsRecord (records ++ r ∷ [])
    → Continues Any (map symbol_of (records ++ r ∷ [])) → length records ≤ 99999999
    → continues_open (map symbol_of records) (symbol_of r) ≡ true → Counts records → Counts (records ++ r ∷ [])
counts_stay records r h g few e c =
    let s = continuing_stays records r h g few e in
    record {
      all = ap₂ (λ (is : List Item) (rs : List RecordValue). records_in is ++ rs) s.nothing s.longer
          ∙ sym (append_assoc (records_in (items_so_far records)) (open_of records) (r ∷ []))
          ∙ ap (λ (rs : List RecordValue). rs ++ r ∷ []) c.all;
      few = omega (arith, ap length s.nothing, few_handed (open_of (records ++ r ∷ [])), c.few, length-append records (r ∷ []));
    }

counts_close : (records : List RecordValue) (r : RecordValue) → AllByRecursion IsRecord (records ++ r ∷ [])
    → Continues Any (map symbol_of (records ++ r ∷ [])) → length records ≤ 99999999
    → continues_open (map symbol_of records) (symbol_of r) ≡ false → Counts records → Counts (records ++ r ∷ [])
counts_close records r h g few e c =
    let s = ends_closes records r h g few e in
    let before : List Item = items_so_far records ++ ended_transaction (open_of records) in
    let own : List Item = item_of r.kind r in
    let open_now : List RecordValue = cond (is_in_transaction r.kind) (r ∷ []) [] in
    let given : records_in (items_so_far (records ++ r ∷ [])) ≡ records ++ records_in own =
    ap records_in s.given ∙ flat_map-append item_records before own
    ∙ ap (λ (rs : List RecordValue). rs ++ records_in own) (records_with_open records c.all) in
    record {
      all = ap₂ (λ (xs ys : List RecordValue). xs ++ ys) given s.open_now
          ∙ append_assoc records (records_in own) open_now
          ∙ ap (λ (rs : List RecordValue). records ++ rs) (own_record r.kind r refl (all_last IsRecord records r h));
      few = omega (
        arith,
        ap length s.given,
        length-append before own,
        length-append (items_so_far records) (ended_transaction (open_of records)),
        ap (λ (rs : List RecordValue). length (ended_transaction rs)) s.open_now,
        own_few r.kind r,
        c.few,
        length-append records (r ∷ []),
      );
    }

counts_more : (records : List RecordValue) (r : RecordValue) → AllByRecursion IsRecord (records ++ r ∷ [])
    → Continues Any (map symbol_of (records ++ r ∷ [])) → length records ≤ 99999999
    → Counts records → Counts (records ++ r ∷ [])
counts_more records r h g few c = by (continues_open (map symbol_of records) (symbol_of r)) refl
  where
    by : (b : Bool) → continues_open (map symbol_of records) (symbol_of r) ≡ b → Counts (records ++ r ∷ [])
    by true e = counts_stay records r h g few e c
    by false e = counts_close records r h g few e c

walk : (before rest : List RecordValue) → AllByRecursion IsRecord (before ++ rest)
    → Continues Any (map symbol_of (before ++ rest)) → length (before ++ rest) ≤ 99999999 → Counts before
    → Counts (before ++ rest)
walk before [] h g few c = subst Counts (sym (append-nil before)) c
walk before (r ∷ rest) h g few c =
    let more : List RecordValue = before ++ r ∷ [] in
    let same : more ++ rest ≡ before ++ r ∷ rest = append_assoc before (r ∷ []) rest in
    let all : AllByRecursion IsRecord (more ++ rest) = subst (AllByRecursion IsRecord) (sym same) h in
    let goes : Continues Any (map symbol_of (more ++ rest)) =
    subst (λ (rs : List RecordValue). Continues Any (map symbol_of rs)) (sym same) g in
    let front : Continues Any (map symbol_of more) =
    front_goes (map symbol_of more) (map symbol_of rest) (subst (Continues Any) (map-append symbol_of more rest) goes) in
    let next : Counts more =
    counts_more before r (all_front IsRecord more rest all) front (omega (arith, few, length-append before (r ∷ rest))) c in
    subst Counts same (walk more rest all goes (omega (arith, few, ap length same)) next)

counts : (records : List RecordValue) → AllByRecursion IsRecord records → Continues Any (map symbol_of records)
    → length records ≤ 99999999 → Counts records
counts records h g few = walk [] records h g few (record {
  all = ap₂ (λ (is : List Item) (rs : List RecordValue). records_in is ++ rs) no_items no_open;
  few = omega (arith, ap length no_items, ap (λ (rs : List RecordValue). length (ended_transaction rs)) no_open);
})

-- ---- what a decoder represents

-- items are few, and so are their records
abbrev AreFew : List Item → Type 0
AreFew given = (length given ≤ 199999998) × (length (records_in given) ≤ 99999999)

few_read : (tally : TallyValue) (lines : List (List ℕ)) (records : List RecordValue) → AreInRange tally.limits
    → AreAccepted tally lines records → length records ≤ 99999999
few_read tally lines records range read = omega (arith, few_records tally lines records range read, length-map records symbol_of)

read_few : (tally : TallyValue) (lines : List (List ℕ)) (records : List RecordValue) (given : List Item) → AreInRange tally.limits
    → AreAccepted tally lines records → given ≡ items_so_far records → AreFew given
read_few tally lines records given range read are =
    let few : length records ≤ 99999999 = few_read tally lines records range read in
    let c = counts records read.in_order read.counted.stands.begins few in
    let all : length (records_in (items_so_far records)) + length (open_of records) ≡ length records =
    sym (length-append (records_in (items_so_far records)) (open_of records)) ∙ ap length c.all in
    subst AreFew (sym are) (omega (arith, few, c.few), omega (arith, few, all))

-- with the last record still waiting
waiting_few : (tally : TallyValue) (lines : List (List ℕ)) (records : List RecordValue) (last : RecordValue) (given : List Item)
    → AreInRange tally.limits → AreAccepted tally lines (records ++ last ∷ [])
    → given ≡ items_so_far records ++ ended_transaction (open_of records) → AreFew given
waiting_few tally lines records last given range read are =
    let most : length (records ++ last ∷ []) ≤ 99999999 = few_read tally lines (records ++ last ∷ []) range read in
    let few : length records ≤ 99999999 = omega (arith, most, length-append records (last ∷ [])) in
    let goes : Continues Any (map symbol_of records) =
    front_goes (map symbol_of records) (symbol_of last ∷ [])
    (subst (Continues Any) (map-append symbol_of records (last ∷ [])) read.counted.stands.begins) in
    let c = counts records (all_front IsRecord records (last ∷ []) read.in_order) goes few in
    subst AreFew (sym are) (
      omega (arith, few, c.few, length-append (items_so_far records) (ended_transaction (open_of records))),
      omega (arith, few, ap length (records_with_open records c.all)),
    )

through_few : (d : Standing) (input : List ℕ) (given : List Item) → AreInRange d.tally.limits → IsThrough d input given
    → AreFew given
through_few d input given range t = read_few d.tally t.lines t.records given range t.read t.given_are

few_in : (state : State) (d : Standing) (input : List ℕ) (given : List Item) → AreInRange d.tally.limits
    → RepresentsIn state d input given → AreFew given
few_in states.Reading d input given range s = read_few d.tally s.lines s.records given range s.read s.given_are
few_in states.Pending d input given range s = waiting_few d.tally s.lines s.records s.last given range s.read s.given_are
few_in states.Ended d input given range s = through_few d input given range s.through
few_in (states.Refused refusal) d input given range s = read_few d.tally s.lines s.records given range s.read s.given_are
few_in (states.Truncated count) d input given range s = through_few d input given range s.through
few_in states.Memory d input given range s = through_few d input given range s.through

-- the items that were handed out are few, and so are their records
pub bounded : (d : Standing) (input : List ℕ) (given : List Item) → Represents d input given
    → (length given ≤ 199999998) × (length (records_in given) ≤ 99999999)
bounded d input given s = few_in d.state d input given s.in_range s.here

-- ---- the items of a transmission

records_of_transactions : (ts : List (List RecordValue)) → records_in (map Transaction ts) ≡ flat_map (λ t. t) ts
records_of_transactions ts = flat_map-map item_records Transaction ts

group_records_in : (g : GroupValue) → records_in (group_items g) ≡ records_of_group g
group_records_in g =
    ap (λ (rs : List RecordValue). g.head ∷ rs)
    (flat_map-append item_records (map Transaction g.transactions) (GroupClosed g.foot ∷ [])
    ∙ ap (λ (rs : List RecordValue). rs ++ g.foot ∷ []) (records_of_transactions g.transactions))

groups_records_in : (gs : List GroupValue) → records_in (flat_map group_items gs) ≡ flat_map records_of_group gs
groups_records_in [] = refl
groups_records_in (g ∷ gs) =
    flat_map-append item_records (group_items g) (flat_map group_items gs)
    ∙ ap₂ (λ (xs ys : List RecordValue). xs ++ ys) (group_records_in g) (groups_records_in gs)

-- they have the records of the transmission
pub value_records_in : (v : TransmissionValue) → records_in (value_items v) ≡ records_of v
value_records_in v =
    ap (λ (rs : List RecordValue). v.opening ∷ rs)
    (flat_map-append item_records (flat_map group_items v.groups) (Ended ∷ [])
    ∙ ap (λ (rs : List RecordValue). rs ++ trailer ∷ []) (groups_records_in v.groups))

-- as many records as rows
pub all_given : (v : TransmissionValue) → length (records_in (value_items v)) ≡ length (rows v)
all_given v = ap length (value_records_in v) ∙ sym (length-rows v)

-- counted item by item
one_more : (test : Item → Bool) (i : Item) (is : List Item) → count_by test (i ∷ is) ≡ cond (test i) 1 0 + count_by test is
one_more test i is = sum_by-cons (λ (x : Item). cond (test x) 1 0) i is

count-append : (test : Item → Bool) (is js : List Item) → count_by test (is ++ js) ≡ count_by test is + count_by test js
count-append test is js = sum_by-append (λ (x : Item). cond (test x) 1 0) is js

-- where each group's items pass the test so many times
counted_groups : (test : Item → Bool) (many : GroupValue → ℕ) → ((g : GroupValue) → count_by test (group_items g) ≡ many g)
    → (gs : List GroupValue) → count_by test (flat_map group_items gs) ≡ sum_by many gs
counted_groups test many each [] = refl
counted_groups test many each (g ∷ gs) =
    count-append test (group_items g) (flat_map group_items gs)
    ∙ ap₂ (λ (m n : ℕ). m + n) (each g) (counted_groups test many each gs) ∙ sym (sum_by-cons many g gs)

no_group_opens : (ts : List (List RecordValue)) → count_by opens_group (map Transaction ts) ≡ 0
no_group_opens [] = refl
no_group_opens (t ∷ ts) = omega (arith, one_more opens_group (Transaction t) (map Transaction ts), no_group_opens ts)

group_opens : (g : GroupValue) → count_by opens_group (group_items g) ≡ 1
group_opens g =
    let inner : List Item = map Transaction g.transactions in
    omega (
      arith,
      one_more opens_group (GroupOpened g.head) (inner ++ GroupClosed g.foot ∷ []),
      count-append opens_group inner (GroupClosed g.foot ∷ []),
      one_more opens_group (GroupClosed g.foot) [],
      no_group_opens g.transactions,
    )

ones : (gs : List GroupValue) → sum_by (λ (g : GroupValue). 1) gs ≡ length gs
ones [] = refl
ones (g ∷ gs) = omega (arith, sum_by-cons (λ (f : GroupValue). 1) g gs, ones gs)

-- as many groups open as there are
pub groups_given : (v : TransmissionValue) → count_by opens_group (value_items v) ≡ length v.groups
groups_given v =
    let inner : List Item = flat_map group_items v.groups in
    omega (
      arith,
      one_more opens_group (Opened v.opening) (inner ++ Ended ∷ []),
      count-append opens_group inner (Ended ∷ []),
      one_more opens_group Ended [],
      counted_groups opens_group (λ g. 1) group_opens v.groups,
      ones v.groups,
    )

all_transactions : (ts : List (List RecordValue)) → count_by is_transaction (map Transaction ts) ≡ length ts
all_transactions [] = refl
all_transactions (t ∷ ts) = omega (arith, one_more is_transaction (Transaction t) (map Transaction ts), all_transactions ts)

group_transactions : (g : GroupValue) → count_by is_transaction (group_items g) ≡ length g.transactions
group_transactions g =
    let inner : List Item = map Transaction g.transactions in
    omega (
      arith,
      one_more is_transaction (GroupOpened g.head) (inner ++ GroupClosed g.foot ∷ []),
      count-append is_transaction inner (GroupClosed g.foot ∷ []),
      one_more is_transaction (GroupClosed g.foot) [],
      all_transactions g.transactions,
    )

-- and as many transactions
pub transactions_given : (v : TransmissionValue)
    → count_by is_transaction (value_items v) ≡ sum_by (λ g. length g.transactions) v.groups
transactions_given v =
    let inner : List Item = flat_map group_items v.groups in
    omega (
      arith,
      one_more is_transaction (Opened v.opening) (inner ++ Ended ∷ []),
      count-append is_transaction inner (Ended ∷ []),
      one_more is_transaction Ended [],
      counted_groups is_transaction (λ g. length g.transactions) group_transactions v.groups,
    )
