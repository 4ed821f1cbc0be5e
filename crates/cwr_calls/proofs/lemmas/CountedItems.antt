-- The numbers of the items that were read, and their records.
use Rattle.std.proofs.Common.{◌≡◌, ℕ, ◌+◌, ◌≤◌, Bool, cond, List, [], ◌∷◌, ◌++◌, length, refl, sym, ap, subst, ◌∙◌}
use Rattle.std.proofs.Common.{arith}
use Rattle.std.specs.Prelude.{Option, count_by, sum_by}
use Rattle.std.proofs.lemmas.List.{length-append}
use Rattle.std.proofs.lemmas.List.Sums.{count_by-le-length, sum_by-append}
use Rattle.cwr_shape.specs.declared.limits.Limits.{Limits}
use Rattle.cwr_values.specs.declared.items.Item.{Item}
use Rattle.cwr_values.specs.declared.items.Item.TheVariants as items
use Rattle.cwr_values.specs.Format.Values.{GroupValue, TransmissionValue}
use Rattle.cwr_values.specs.Format.Rows.{rows}
use Rattle.cwr_judge.specs.Format.Items.{is_transaction, item_records, opens_group, records_in, value_items}
use Rattle.cwr_decode.specs.Steps.Machines.{Standing}
use Rattle.cwr_decode.specs.Steps.Runs.{IsReadingOn}
use Rattle.cwr_decode.proofs.lemmas.CountedItems.{all_given, bounded, groups_given, transactions_given}
use Rattle.cwr_tools.specs.declared.verdicts.Verdict.TheVariants.{Good}
use Rattle.cwr_tools.specs.Format.Texts.{good_verdict}
use Rattle.cwr_calls.specs.declared.listing.Numbers.{Numbers}
use Rattle.cwr_calls.specs.Steps.Listed.{numbers_with}

-- ---- how many they are

-- the numbers are those of the items
pub record IsCount (c : Numbers) (given : List Item) : Type 0 where
  pub groups : c.groups ≡ count_by opens_group given
  pub transactions : c.transactions ≡ count_by is_transaction given
  pub records : c.records ≡ length (records_in given)

-- none were handed out
pub counts_none : (c : Numbers) → c ≡ record { groups = 0; transactions = 0; records = 0 } → IsCount c []
counts_none c e = subst (λ (x : Numbers). IsCount x []) (sym e) (record { groups = refl; transactions = refl; records = refl })

count_by-snoc : (p : Item → Bool) (given : List Item) (item : Item)
    → count_by p (given ++ item ∷ []) ≡ count_by p given + count_by p (item ∷ [])
count_by-snoc p given item = sum_by-append (λ (x : Item). cond (p x) 1 0) given (item ∷ [])

records_in-snoc : (given : List Item) (item : Item)
    → length (records_in (given ++ item ∷ [])) ≡ length (records_in given) + length (item_records item)
records_in-snoc [] item = omega (arith, length-append (item_records item) [])
records_in-snoc (x ∷ given) item =
    omega (
      arith,
      records_in-snoc given item,
      length-append (item_records x) (records_in (given ++ item ∷ [])),
      length-append (item_records x) (records_in given),
    )

-- with one item more
pub count_more : (c : Numbers) (given : List Item) (item : Item) → IsCount c given
    → IsCount (numbers_with c item) (given ++ item ∷ [])
count_more c given item h = record {
  groups = ap (λ (n : ℕ). n + count_by opens_group (item ∷ [])) h.groups ∙ sym (count_by-snoc opens_group given item);
  transactions =
      ap (λ (n : ℕ). n + count_by is_transaction (item ∷ [])) h.transactions ∙ sym (count_by-snoc is_transaction given item);
  records = ap (λ (n : ℕ). n + length (item_records item)) h.records ∙ sym (records_in-snoc given item);
}

-- the numbers have room for more
pub record HasRoomToCount (c : Numbers) : Type 0 where
  pub groups : c.groups ≤ 199999998
  pub transactions : c.transactions ≤ 199999998
  pub records : c.records ≤ 99999999

pub has_room : (limits : Limits) (d : Standing) (before now : Option (List ℕ)) (c : Numbers) (given : List Item)
    → IsReadingOn limits d before now given → IsCount c given → HasRoomToCount c
has_room limits d before now c given h k =
    let b = bounded d h.read.input given h.read.stands in
    record {
      groups = omega (arith, k.groups, count_by-le-length opens_group given, b.0);
      transactions = omega (arith, k.transactions, count_by-le-length is_transaction given, b.0);
      records = omega (arith, k.records, b.1);
    }

-- and so have those of one item more
pub next_room : (limits : Limits) (d : Standing) (before now : Option (List ℕ)) (c : Numbers) (given : List Item) (item : Item)
    → IsReadingOn limits d before now (given ++ item ∷ []) → IsCount c given
    → HasRoomToCount (numbers_with c item)
next_room limits d before now c given item h k =
    has_room limits d before now (numbers_with c item) (given ++ item ∷ []) h (count_more c given item k)

-- all numbers together
abbrev pub total : Numbers → ℕ
total c = c.groups + (c.transactions + c.records)

pub total_grows : (c : Numbers) (item : Item) → total c + 1 ≤ total (numbers_with c item)
total_grows c (items.Opened r) = omega arith
total_grows c (items.GroupOpened r) = omega arith
total_grows c (items.Transaction t) = omega arith
total_grows c (items.GroupClosed r) = omega arith
total_grows c items.Ended = omega arith

-- the numbers of all items of a transmission are those of its verdict
pub good_count : (c : Numbers) (given : List Item) (v : TransmissionValue) → given ≡ value_items v → IsCount c given
    → Good c.groups c.transactions c.records ≡ good_verdict v
good_count c given v given_are k =
    let groups : c.groups ≡ length v.groups = k.groups ∙ ap (count_by opens_group) given_are ∙ groups_given v in
    let transactions : c.transactions ≡ sum_by (λ (g : GroupValue). length g.transactions) v.groups =
    k.transactions ∙ ap (count_by is_transaction) given_are ∙ transactions_given v in
    let records : c.records ≡ length (rows v) =
    k.records ∙ ap (λ (is : List Item). length (records_in is)) given_are ∙ all_given v in
    λ i. Good (groups i) (transactions i) (records i)
