-- What is selected of a transmission is a transmission, within the limits that the whole is within.
use Rattle.std.proofs.Common.{◌≡◌, ℕ, suc, ◌+◌, ◌<◌, ◌≤◌, Bool, true, false, List, [], ◌∷◌, length, map, Some, None}
use Rattle.std.proofs.Common.{refl, sym, ap, subst, ◌∙◌, arith}
use Rattle.std.specs.Prelude.{◌==◌, nat_lt, if◌then◌else◌}
use Rattle.std.specs.List.{AllByRecursion, flat_map}
use Rattle.std.proofs.lemmas.Bool.{ltb-true}
use Rattle.std.proofs.lemmas.List.{length-append, length-map}
use Rattle.std.proofs.lemmas.List.Sums.{sum_by-cons}
use Rattle.cwr_fields.specs.declared.kinds.Kind.TheVariants as kinds
use Rattle.cwr_lines.specs.Format.Records.{RecordValue, blank_record}
use Rattle.cwr_lines.proofs.lemmas.RecordTest.{record_sound}
use Rattle.cwr_fields.proofs.lemmas.CellTests as tests
use Rattle.cwr_shape.specs.declared.limits.Limits.{Limits}
use Rattle.cwr_shape.specs.declared.symbols.Symbol.{Symbol}
use Rattle.cwr_shape.specs.declared.symbols.Symbol.TheVariants.{Plain}
use Rattle.cwr_shape.specs.Format.Outlines.{GroupOutline, group_symbols, symbols_of}
use Rattle.cwr_values.specs.Format.Values.{GroupValue, TransmissionValue, FitsIn, IsGroup, IsRecordOf, IsTransaction}
use Rattle.cwr_values.specs.Format.Values.{IsTransmission, outline_of_group, symbol_of, type_of}
use Rattle.cwr_select.specs.Format.Selections.{Choice, selected, selected_group, selected_groups}
use Rattle.cwr_select.specs.Format.Selections.{selected_count, selected_transactions, transactions_in, with_groups}
use Rattle.cwr_select.proofs.lemmas.SelectedItems.{group_first, group_later, has_some, selected_first, selected_later}

-- ---- what holds of each

-- what holds of each transaction holds of those that are selected
pub each_selected : (P : List RecordValue → Type 0) (test : ℕ → List RecordValue → Bool) (k : ℕ) (ts : List (List RecordValue))
    → AllByRecursion P ts → AllByRecursion P (selected_transactions test k ts)
each_selected P test k [] h = tt
each_selected P test k (t ∷ ts) h = by (test k t) refl (each_selected P test (k + 1) ts h.1)
  where
    by : (b : Bool) → test k t ≡ b → AllByRecursion P (selected_transactions test (k + 1) ts)
        → AllByRecursion P (selected_transactions test k (t ∷ ts))
    by true e rest = subst (AllByRecursion P) (sym (selected_first test k t ts e)) (h.0, rest)
    by false e rest = subst (AllByRecursion P) (sym (selected_later test k t ts e)) rest

-- a blank GRT is a GRT record
blank_foot : IsRecordOf kinds.Grt (blank_record kinds.Grt)
unfolding tests.holds_test
blank_foot = (refl, record_sound (blank_record kinds.Grt) refl)

right_foot : (foot : RecordValue) (b : Bool) → IsRecordOf kinds.Grt foot
    → IsRecordOf kinds.Grt (if b then foot else blank_record kinds.Grt)
right_foot foot true h = h
right_foot foot false h = blank_foot

pub some_of : (n : ℕ) → nat_lt 0 n ≡ true → 0 < n
some_of n e = ltb-true 0 n e

-- what is selected of a group is a group, where there is any
right_group : (choice : Choice) (n : ℕ) (g : GroupValue) → IsGroup g → has_some (selected_group choice n g) ≡ true
    → IsGroup (selected_group choice n g)
right_group choice n g h e = record {
  head = h.head;
  some_transaction = some_of (length (selected_group choice n g).transactions) e;
  each = each_selected (IsTransaction (type_of g.head)) (choice n) 0 g.transactions h.each;
  foot = right_foot g.foot (length (selected_group choice n g).transactions == length g.transactions) h.foot;
}

-- what holds of each group that has a selected transaction
pub each_group : (P Q : GroupValue → Type 0) (choice : Choice) (n : ℕ) (gs : List GroupValue)
    → ((m : ℕ) (g : GroupValue) → P g → has_some (selected_group choice m g) ≡ true → Q (selected_group choice m g))
    → AllByRecursion P gs → AllByRecursion Q (selected_groups choice n gs)
each_group P Q choice n [] f h = tt
each_group P Q choice n (g ∷ gs) f h = by (has_some (selected_group choice n g)) refl (each_group P Q choice (n + 1) gs f h.1)
  where
    by : (b : Bool) → has_some (selected_group choice n g) ≡ b → AllByRecursion Q (selected_groups choice (n + 1) gs)
        → AllByRecursion Q (selected_groups choice n (g ∷ gs))
    by true e rest = subst (AllByRecursion Q) (sym (group_first choice n g gs e)) (f n g h.0 e, rest)
    by false e rest = subst (AllByRecursion Q) (sym (group_later choice n g gs e)) rest

-- ---- the limits

-- the symbols of transactions, and of groups
abbrev pub in_transactions : List (List RecordValue) → ℕ
in_transactions ts = length (flat_map (λ t. t) (map (map symbol_of) ts))

abbrev pub in_groups : List GroupValue → ℕ
in_groups gs = length (flat_map group_symbols (map outline_of_group gs))

pub transactions_more : (t : List RecordValue) (ts : List (List RecordValue))
    → in_transactions (t ∷ ts) ≡ length t + in_transactions ts
transactions_more t ts =
    length-append (map symbol_of t) (flat_map (λ t. t) (map (map symbol_of) ts))
    ∙ ap (λ (k : ℕ). k + in_transactions ts) (length-map t symbol_of)

-- fewer transactions have fewer records
fewer_transactions : (test : ℕ → List RecordValue → Bool) (k : ℕ) (ts : List (List RecordValue))
    → in_transactions (selected_transactions test k ts) ≤ in_transactions ts
fewer_transactions test k [] = omega arith
fewer_transactions test k (t ∷ ts) = by (test k t) refl (fewer_transactions test (k + 1) ts)
  where
    kept : List (List RecordValue)
    kept = selected_transactions test (k + 1) ts

    by : (b : Bool) → test k t ≡ b → in_transactions kept ≤ in_transactions ts
        → in_transactions (selected_transactions test k (t ∷ ts)) ≤ in_transactions (t ∷ ts)
    by true e fewer =
        subst (λ (l : List (List RecordValue)). in_transactions l ≤ in_transactions (t ∷ ts)) (sym (selected_first test k t ts e))
        (omega (arith, fewer, transactions_more t kept, transactions_more t ts))
    by false e fewer =
        subst (λ (l : List (List RecordValue)). in_transactions l ≤ in_transactions (t ∷ ts)) (sym (selected_later test k t ts e))
        (omega (arith, fewer, transactions_more t ts))

-- GRH and GRT are two
pub group_more : (g : GroupValue) (gs : List GroupValue) → in_groups (g ∷ gs) ≡ in_transactions g.transactions + 2 + in_groups gs
group_more g gs =
    let ts : List Symbol = flat_map (λ t. t) (map (map symbol_of) g.transactions) in
    let one : length (group_symbols (outline_of_group g)) ≡ length ts + 2 =
    ap suc (length-append ts (Plain kinds.Grt ∷ [])) ∙ omega arith in
    length-append (group_symbols (outline_of_group g)) (flat_map group_symbols (map outline_of_group gs))
    ∙ ap (λ (k : ℕ). k + in_groups gs) one

-- fewer records, and fewer groups
pub record AreFewer (kept gs : List GroupValue) : Type 0 where
  pub records : in_groups kept ≤ in_groups gs
  pub groups : length kept ≤ length gs

fewer_groups : (choice : Choice) (n : ℕ) (gs : List GroupValue) → AreFewer (selected_groups choice n gs) gs
fewer_groups choice n [] = record { records = omega arith; groups = omega arith }
fewer_groups choice n (g ∷ gs) = by (has_some (selected_group choice n g)) refl (fewer_groups choice (n + 1) gs)
  where
    one : GroupValue
    one = selected_group choice n g

    kept : List GroupValue
    kept = selected_groups choice (n + 1) gs

    fewer : in_transactions one.transactions ≤ in_transactions g.transactions
    fewer = fewer_transactions (choice n) 0 g.transactions

    by : (b : Bool) → has_some one ≡ b → AreFewer kept gs → AreFewer (selected_groups choice n (g ∷ gs)) (g ∷ gs)
    by true e f = subst (λ (l : List GroupValue). AreFewer l (g ∷ gs)) (sym (group_first choice n g gs e)) (record {
      records = omega (arith, f.records, fewer, group_more one kept, group_more g gs);
      groups = omega (arith, f.groups);
    })
    by false e f = subst (λ (l : List GroupValue). AreFewer l (g ∷ gs)) (sym (group_later choice n g gs e)) (record {
      records = omega (arith, f.records, group_more g gs);
      groups = omega (arith, f.groups);
    })

-- HDR and TRL are two
pub all_symbols : (gs : List GroupValue) → length (symbols_of (map outline_of_group gs)) ≡ in_groups gs + 2
all_symbols gs = ap suc (length-append (flat_map group_symbols (map outline_of_group gs)) (Plain kinds.Trl ∷ [])) ∙ omega arith

-- each transaction of each group keeps to its limit
abbrev KeepTo : ℕ → GroupValue → Type 0
KeepTo limit g = AllByRecursion (λ t. length t ≤ limit) (map (map symbol_of) g.transactions)

unmapped : {X Y : Type 0} (P : Y → Type 0) (f : X → Y) (xs : List X) → AllByRecursion P (map f xs)
    → AllByRecursion (λ x. P (f x)) xs
unmapped P f [] h = tt
unmapped P f (x ∷ xs) h = (h.0, unmapped P f xs h.1)

mapped : {X Y : Type 0} (P : Y → Type 0) (f : X → Y) (xs : List X) → AllByRecursion (λ x. P (f x)) xs
    → AllByRecursion P (map f xs)
mapped P f [] h = tt
mapped P f (x ∷ xs) h = (h.0, mapped P f xs h.1)

keeps_to : (limit : ℕ) (choice : Choice) (n : ℕ) (g : GroupValue) → KeepTo limit g → KeepTo limit (selected_group choice n g)
keeps_to limit choice n g h =
    let P : List Symbol → Type 0 = λ t. length t ≤ limit in
    mapped P (map symbol_of) (selected_group choice n g).transactions
    (each_selected (λ t. length (map symbol_of t) ≤ limit) (choice n) 0 g.transactions
    (unmapped P (map symbol_of) g.transactions h))

fits_selected : (limits : Limits) (choice : Choice) (v : TransmissionValue) → FitsIn limits v
    → FitsIn limits (record { opening = v.opening; groups = selected_groups choice 1 v.groups })
fits_selected limits choice v fits =
    let kept : List GroupValue = selected_groups choice 1 v.groups in
    let fewer = fewer_groups choice 1 v.groups in
    let P : GroupOutline → Type 0 = λ g. AllByRecursion (λ t. length t ≤ limits.transaction) g.transactions in
    let m : length (symbols_of (map outline_of_group v.groups)) ≤ limits.records = fits.0 in
    let w : length (map outline_of_group v.groups) ≤ limits.groups = fits.1 in (
      omega (arith, m, fewer.records, all_symbols v.groups, all_symbols kept),
      omega (arith, w, fewer.groups, length-map v.groups outline_of_group, length-map kept outline_of_group),
      mapped P outline_of_group kept
          (each_group (KeepTo limits.transaction) (KeepTo limits.transaction) choice 1 v.groups
          (λ m g h e. keeps_to limits.transaction choice m g h)
          (unmapped P outline_of_group v.groups fits.2)),
    )

-- ---- a transmission

pub selected_fits : (limits : Limits) (choice : Choice) (v w : TransmissionValue) → IsTransmission v → FitsIn limits v
    → selected choice v ≡ Some w → IsTransmission w × FitsIn limits w
selected_fits limits choice v w whole fits e =
    by (selected_groups choice 1 v.groups) e
    (each_group IsGroup IsGroup choice 1 v.groups (right_group choice) whole.each) (fits_selected limits choice v fits)
  where
    by : (gs : List GroupValue) → with_groups v.opening gs ≡ Some w → AllByRecursion IsGroup gs
        → FitsIn limits (record { opening = v.opening; groups = gs }) → IsTransmission w × FitsIn limits w
    by [] some each f = absurd (cc)
    by (g ∷ gs) some each f =
        let one : TransmissionValue = record { opening = v.opening; groups = g ∷ gs } in
        let same : one ≡ w = cc in (
          subst IsTransmission same (record { opening = whole.opening; some_group = omega arith; each = each }),
          subst (FitsIn limits) same f,
        )

-- ---- nothing is selected

pub any_group : (gs : List GroupValue) → AllByRecursion (λ g. Unit {0}) gs
any_group [] = tt
any_group (g ∷ gs) = (tt, any_group gs)

-- where no transaction is selected, there is no transmission of what is
pub none_selected : (choice : Choice) (v : TransmissionValue) → selected_count choice v ≡ 0 → selected choice v ≡ None
none_selected choice v e =
    by (selected_groups choice 1 v.groups) e
    (each_group (λ g. Unit {0}) (λ g. 0 < length g.transactions) choice 1 v.groups
    (λ m g h some. some_of (length (selected_group choice m g).transactions) some) (any_group v.groups))
  where
    by : (gs : List GroupValue) → transactions_in gs ≡ 0 → AllByRecursion (λ g. 0 < length g.transactions) gs
        → with_groups v.opening gs ≡ None
    by [] none each = refl
    by (g ∷ gs) none each =
        absurd (omega (arith, none, each.0, sum_by-cons (λ (x : GroupValue). length x.transactions) g gs))

-- else there is one
pub some_selected : (choice : Choice) (v : TransmissionValue) → 0 < selected_count choice v
    → (w : TransmissionValue) × (selected choice v ≡ Some w)
some_selected choice v some = by (selected_groups choice 1 v.groups) some
  where
    by : (gs : List GroupValue) → 0 < transactions_in gs
        → (w : TransmissionValue) × (with_groups v.opening gs ≡ Some w)
    by [] more = absurd (omega (arith, more))
    by (g ∷ gs) more = (record { opening = v.opening; groups = g ∷ gs }, refl)
