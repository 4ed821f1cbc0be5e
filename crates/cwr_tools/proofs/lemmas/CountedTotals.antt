-- The numbers of the items that were handed out.
use Rattle.std.proofs.Common.{◌≡◌, ℕ, ◌+◌, ◌-◌, ◌≤◌, Bool, true, false, not, cond, List, [], ◌∷◌, ◌++◌, length, drop, refl, sym}
use Rattle.std.proofs.Common.{ap, subst, ◌∙◌, arith}
use Rattle.std.specs.Prelude.{Option, count_by, sum_by}
use Rattle.std.specs.List.{after_last, prefix_len, suffix_len}
use Rattle.std.proofs.lemmas.List.{drop-append-le, drop_all, length-append, length-drop, reverse-append}
use Rattle.std.proofs.lemmas.List.Sums.{count_by-le-length, sum_by-append}
use Rattle.cwr_shape.specs.declared.limits.Limits.{Limits}
use Rattle.cwr_values.specs.declared.items.Item.{Item}
use Rattle.cwr_values.specs.declared.items.Item.TheVariants as items
use Rattle.cwr_values.specs.Format.Values.{GroupValue, TransmissionValue}
use Rattle.cwr_values.specs.Format.Rows.{rows}
use Rattle.cwr_judge.specs.Format.Items.{item_records, records_in, opens_group, is_transaction, value_items}
use Rattle.cwr_decode.specs.Steps.Machines.{Standing}
use Rattle.cwr_decode.specs.Steps.Runs.{IsReadingOn}
use Rattle.cwr_decode.proofs.lemmas.CountedItems.{all_given, bounded, groups_given, transactions_given}
use Rattle.cwr_tools.specs.declared.verdicts.Verdict.TheVariants.{Good}
use Rattle.cwr_tools.specs.declared.totals.Totals.{Totals}
use Rattle.cwr_tools.specs.Format.Texts.{good_verdict}
use Rattle.cwr_tools.specs.Steps.Counts.{HasRoomToCount, IsCount}
use Rattle.cwr_tools.specs.Steps.Verdicts.{totals_with}

-- none were handed out
pub counts_none : (c : Totals) → c ≡ record { groups = 0; transactions = 0; in_group = 0; before_group = 0; records = 0 }
    → IsCount c []
counts_none c e =
    subst (λ (x : Totals). IsCount x []) (sym e) (record { groups = refl; transactions = refl; in_group = refl; records = refl })

count_by-snoc : (p : Item → Bool) (given : List Item) (item : Item)
    → count_by p (given ++ item ∷ []) ≡ count_by p given + count_by p (item ∷ [])
count_by-snoc p given item = sum_by-append (λ (x : Item). cond (p x) 1 0) given (item ∷ [])

records_in-snoc : (given : List Item) (item : Item)
    → length (records_in (given ++ item ∷ [])) ≡ length (records_in given) + length (item_records item)
records_in-snoc [] item = omega (arith, length-append (item_records item) [])
records_in-snoc (x ∷ given) item =
    omega (
      arith,
      records_in-snoc given item,
      length-append (item_records x) (records_in (given ++ item ∷ [])),
      length-append (item_records x) (records_in given),
    )

-- what stands after the last that passes, with one element more
after_last-snoc : {X : Type 0} (p : X → Bool) (xs : List X) (x : X)
    → after_last p (xs ++ x ∷ []) ≡ cond (p x) [] (after_last p xs ++ x ∷ [])
after_last-snoc {X = X} p xs x = by (p x) refl
  where
    others : X → Bool
    others y = not (p y)

    count : suffix_len others (xs ++ x ∷ []) ≡ cond (others x) (1 + suffix_len others xs) 0
    count = ap (prefix_len others) (reverse-append xs (x ∷ []))

    by : (b : Bool) → p x ≡ b → after_last p (xs ++ x ∷ []) ≡ cond b [] (after_last p xs ++ x ∷ [])
    by true e =
        let none : suffix_len others (xs ++ x ∷ []) ≡ 0 =
        count ∙ ap (λ (b : Bool). cond (not b) (1 + suffix_len others xs) 0) e in
        let all : length (xs ++ x ∷ []) - suffix_len others (xs ++ x ∷ []) ≡ length (xs ++ x ∷ []) = omega (arith, none) in
        ap (λ (n : ℕ). drop n (xs ++ x ∷ [])) all ∙ drop_all (length (xs ++ x ∷ [])) (xs ++ x ∷ []) (omega arith)
    by false e =
        let one : suffix_len others (xs ++ x ∷ []) ≡ 1 + suffix_len others xs =
        count ∙ ap (λ (b : Bool). cond (not b) (1 + suffix_len others xs) 0) e in
        let same : length (xs ++ x ∷ []) - suffix_len others (xs ++ x ∷ []) ≡ length xs - suffix_len others xs =
        omega (arith, one, length-append xs (x ∷ [])) in
        ap (λ (n : ℕ). drop n (xs ++ x ∷ [])) same ∙ drop-append-le (length xs - suffix_len others xs) xs (x ∷ []) (omega arith)

in_group_more : (b : Bool) (given : List Item) (item : Item) (n : ℕ) → n ≡ count_by is_transaction (after_last opens_group given)
    → cond b 0 (n + count_by is_transaction (item ∷ []))
    ≡ count_by is_transaction (cond b [] (after_last opens_group given ++ item ∷ []))
in_group_more true given item n e = refl
in_group_more false given item n e =
    ap (λ (m : ℕ). m + count_by is_transaction (item ∷ [])) e
    ∙ sym (count_by-snoc is_transaction (after_last opens_group given) item)

pub count_more : (c : Totals) (given : List Item) (item : Item) → IsCount c given
    → IsCount (totals_with c item) (given ++ item ∷ [])
count_more c given item h = record {
  groups = ap (λ (n : ℕ). n + count_by opens_group (item ∷ [])) h.groups ∙ sym (count_by-snoc opens_group given item);
  transactions =
      ap (λ (n : ℕ). n + count_by is_transaction (item ∷ [])) h.transactions ∙ sym (count_by-snoc is_transaction given item);
  in_group =
      in_group_more (opens_group item) given item c.in_group h.in_group
      ∙ ap (count_by is_transaction) (sym (after_last-snoc opens_group given item));
  records = ap (λ (n : ℕ). n + length (item_records item)) h.records ∙ sym (records_in-snoc given item);
}

pub has_room : (limits : Limits) (d : Standing) (before now : Option (List ℕ)) (c : Totals) (given : List Item)
    → IsReadingOn limits d before now given → IsCount c given → HasRoomToCount c
has_room limits d before now c given h k =
    let b = bounded d h.read.input given h.read.stands in
    record {
      groups = omega (arith, k.groups, count_by-le-length opens_group given, b.0);
      transactions = omega (arith, k.transactions, count_by-le-length is_transaction given, b.0);
      in_group = omega (
        arith,
        k.in_group,
        count_by-le-length is_transaction (after_last opens_group given),
        length-drop (length given - suffix_len (λ (item : Item). not (opens_group item)) given) given,
        b.0,
      );
      records = omega (arith, k.records, b.1);
    }

-- and so have those of one item more
pub next_room : (limits : Limits) (d : Standing) (before now : Option (List ℕ)) (c : Totals) (given : List Item) (item : Item)
    → IsReadingOn limits d before now (given ++ item ∷ []) → IsCount c given
    → HasRoomToCount (totals_with c item)
next_room limits d before now c given item h k =
    has_room limits d before now (totals_with c item) (given ++ item ∷ []) h (count_more c given item k)

-- all numbers together
abbrev pub total : Totals → ℕ
total c = c.groups + (c.transactions + c.records)

pub total_grows : (c : Totals) (item : Item) → total c + 1 ≤ total (totals_with c item)
total_grows c (items.Opened r) = omega arith
total_grows c (items.GroupOpened r) = omega arith
total_grows c (items.Transaction t) = omega arith
total_grows c (items.GroupClosed r) = omega arith
total_grows c items.Ended = omega arith

-- the numbers of all items of a transmission are those of its verdict
pub good_count : (c : Totals) (given : List Item) (v : TransmissionValue) → given ≡ value_items v → IsCount c given
    → Good c.groups c.transactions c.records ≡ good_verdict v
good_count c given v given_are k =
    let groups : c.groups ≡ length v.groups = k.groups ∙ ap (count_by opens_group) given_are ∙ groups_given v in
    let transactions : c.transactions ≡ sum_by (λ (g : GroupValue). length g.transactions) v.groups =
    k.transactions ∙ ap (count_by is_transaction) given_are ∙ transactions_given v in
    let records : c.records ≡ length (rows v) =
    k.records ∙ ap (λ (is : List Item). length (records_in is)) given_are ∙ all_given v in
    λ i. Good (groups i) (transactions i) (records i)
