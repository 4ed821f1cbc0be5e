-- A transmission is within the limits exactly where no fault is reported of it.
use Rattle.std.proofs.Common.{◌≡◌, ℕ, zero, suc, ◌+◌, ◌<◌, ◌≤◌, Bool, true, false, cond, List, [], ◌∷◌, length, map, drop, Option}
use Rattle.std.proofs.Common.{None, Some, refl, sym, ap, ◌∙◌, arith}
use Rattle.std.specs.Prelude.{◌↔◌, ◌==◌, nat_lt, option_map, position, find, slice_index_or, sum, sum_by, if◌then◌else◌}
use Rattle.std.specs.Option.{option_or}
use Rattle.std.proofs.lemmas.Bool.{eqb-true, eqb-false, le-ltb, ltb-false}
use Rattle.std.specs.List.{AllByRecursion, flat_map, enumerate_from, position_from}
use Rattle.std.proofs.lemmas.List.{length-append, length-map, at_drop_more}
use Rattle.std.proofs.lemmas.List.Folds.{find-append}
use Rattle.std.proofs.lemmas.List.Sums.{sum_by-cons}
use Rattle.std.proofs.lemmas.Option.{none-some}
use Rattle.std.proofs.lemmas.Iterator.Adapters.{position_from-zero}
use Rattle.cwr_fields.specs.declared.kinds.Kind.TheVariants as kinds
use Rattle.cwr_lines.specs.Format.Records.{RecordValue}
use Rattle.cwr_shape.specs.declared.symbols.Symbol.TheVariants.{Plain}
use Rattle.cwr_shape.specs.declared.limits.Limits.{Limits}
use Rattle.cwr_shape.specs.Format.Outlines.{group_symbols, symbols_of}
use Rattle.cwr_shape.specs.Format.Numbers.{group_records}
use Rattle.cwr_values.specs.declared.transmissions.ValueFault.{ValueFault}
use Rattle.cwr_values.specs.declared.transmissions.ValueFault.TheVariants.{NoGroup, Records, Groups, Transaction}
use Rattle.cwr_values.specs.Format.Values.{GroupValue, TransmissionValue, IsTransmission, FitsIn, symbol_of, outline_of}
use Rattle.cwr_values.specs.Format.Values.{outline_of_group}
use Rattle.cwr_values.specs.Format.Begun.{IsBegunTransmission}
use Rattle.cwr_values.specs.Format.Rows.{rows}
use Rattle.cwr_values.specs.Format.Fits.{value_fault}
use Rattle.cwr_values.proofs.lemmas.Spelling.{length-rows, length-records_of}

-- ---- as many symbols as rows

length-symbols-transactions : (ts : List (List RecordValue))
    → length (flat_map (λ t. t) (map (map symbol_of) ts)) ≡ sum (map length ts)
length-symbols-transactions [] = refl
length-symbols-transactions (t ∷ ts) =
    let split = length-append (map symbol_of t) (flat_map (λ u. u) (map (map symbol_of) ts)) in
    let total = sum_by-cons (λ (x : ℕ). x) (length t) (map length ts) in
    omega (arith, split, total, length-map t symbol_of, length-symbols-transactions ts)

length-symbols-groups : (gs : List GroupValue)
    → length (flat_map group_symbols (map outline_of_group gs)) ≡ sum_by group_records (map (λ g. map length g.transactions) gs)
length-symbols-groups [] = refl
length-symbols-groups (g ∷ gs) =
    let split = length-append (group_symbols (outline_of_group g)) (flat_map group_symbols (map outline_of_group gs)) in
    let inner = length-append (flat_map (λ t. t) (map (map symbol_of) g.transactions)) (Plain kinds.Grt ∷ []) in
    let total = sum_by-cons group_records (map length g.transactions) (map (λ h. map length h.transactions) gs) in
    omega (arith, split, inner, total, length-symbols-transactions g.transactions, length-symbols-groups gs)

length-symbols : (v : TransmissionValue) → length (symbols_of (outline_of v)) ≡ length (rows v)
length-symbols v =
    omega (
      arith,
      length-append (flat_map group_symbols (outline_of v)) (Plain kinds.Trl ∷ []),
      length-symbols-groups v.groups,
      length-rows v,
      length-records_of v,
    )

-- ---- the first transaction that is too long

-- a transaction by its group's place, its own place in the group, and its length: the fault, and whether it is one
abbrev pub too_long_fault : ℕ × ℕ × ℕ → ValueFault
too_long_fault m = Transaction m.0 m.1

abbrev pub is_longer : ℕ → ℕ × ℕ × ℕ → Bool
is_longer limit m = nat_lt limit m.2

-- the first too long one of groups from group i on
abbrev pub too_long_from : ℕ → ℕ → List GroupValue → Option ValueFault
too_long_from limit i gs = option_map too_long_fault (find (is_longer limit)
    (flat_map (λ g. map (λ t. (g.0, t.0, t.1)) (enumerate_from 0 g.1))
    (enumerate_from i (map (λ g. map length g.transactions) gs))))

in_group : (limit i j : ℕ) (ts : List (List RecordValue))
    → option_map too_long_fault (find (is_longer limit) (map (λ t. (i, t.0, t.1)) (enumerate_from j (map length ts))))
    ≡ option_map (λ k. Transaction i k) (position_from (λ t. nat_lt limit (length t)) j ts)
in_group limit i j [] = refl
in_group limit i j (t ∷ ts) = by_test (nat_lt limit (length t)) _ _ (in_group limit i (j + 1) ts)
  where
    by_test : (b : Bool) (rest : Option (ℕ × ℕ × ℕ)) (others : Option ℕ)
        → option_map too_long_fault rest ≡ option_map (λ k. Transaction i k) others
        → option_map too_long_fault (cond b (Some (i, j, length t)) rest)
        ≡ option_map (λ k. Transaction i k) (cond b (Some j) others)
    by_test true rest others e = refl
    by_test false rest others e = e

map-or : {A B : Type 0} (f : A → B) (o p : Option A) → option_map f (option_or o p) ≡ option_or (option_map f o) (option_map f p)
map-or f None p = refl
map-or f (Some x) p = refl

-- it is in the first of these groups, or in those after it
pub too_long-cons : (limit i : ℕ) (g : GroupValue) (gs : List GroupValue)
    → too_long_from limit i (g ∷ gs) ≡ option_or
    (option_map (λ k. Transaction i k) (position (λ t. nat_lt limit (length t)) g.transactions))
    (too_long_from limit (i + 1) gs)
too_long-cons limit i g gs =
    ap (option_map too_long_fault)
    (find-append (is_longer limit) (map (λ t. (i, t.0, t.1)) (enumerate_from 0 (map length g.transactions))) _)
    ∙ map-or too_long_fault (find (is_longer limit) (map (λ t. (i, t.0, t.1)) (enumerate_from 0 (map length g.transactions)))) _
    ∙ ap (λ (o : Option ValueFault). option_or o (too_long_from limit (i + 1) gs))
    (in_group limit i 0 g.transactions
    ∙ ap (option_map (λ k. Transaction i k)) (sym (position_from-zero (λ t. nat_lt limit (length t)) g.transactions)))

some_not_zero : (n : ℕ) → n ≡ 0 → 0 < n → ⊥
some_not_zero n e h = omega arith

not_zero_some : (n : ℕ) → (n ≡ 0 → ⊥) → 0 < n
not_zero_some zero h = absurd (h refl)
not_zero_some (suc n) h = omega arith

false_is_true : false ≡ true → ⊥
false_is_true e = cc e

none_in : (limit j : ℕ) (ts : List (List RecordValue))
    → (position_from (λ t. nat_lt limit (length t)) j ts ≡ None) ↔ AllByRecursion (λ t. length t ≤ limit) (map (map symbol_of) ts)
none_in limit j [] = (λ e. tt, λ h. refl)
none_in limit j (t ∷ ts) =
    let rest = none_in limit (j + 1) ts in
    let same : length (map symbol_of t) ≡ length t = length-map t symbol_of in
    let this : (position_from (λ u. nat_lt limit (length u)) j (t ∷ ts) ≡ None)
    ↔ ((length t ≤ limit) × (position_from (λ u. nat_lt limit (length u)) (j + 1) ts ≡ None)) =
    by_test limit (length t) j (position_from (λ u. nat_lt limit (length u)) (j + 1) ts) in
    (λ e. (omega (arith, same, (this.0 e).0), rest.0 (this.0 e).1), λ h. this.1 (omega (arith, same, h.0), rest.1 h.1))
  where
    by_test : (limit n j : ℕ) (o : Option ℕ) → (cond (nat_lt limit n) (Some j) o ≡ None) ↔ ((n ≤ limit) × (o ≡ None))
    by_test limit n j o = by (nat_lt limit n) refl
      where
        by : (b : Bool) → nat_lt limit n ≡ b → (cond b (Some j) o ≡ None) ↔ ((n ≤ limit) × (o ≡ None))
        by true is = (λ e. absurd (cc e), λ h. absurd (false_is_true (sym (le-ltb limit n h.0) ∙ is)))
        by false is = (λ e. (ltb-false limit n is, e), λ h. h.1)

none_from : (limit i : ℕ) (gs : List GroupValue)
    → (too_long_from limit i gs ≡ None)
    ↔ AllByRecursion (λ g. AllByRecursion (λ t. length t ≤ limit) g.transactions) (map outline_of_group gs)
none_from limit i [] = (λ e. tt, λ h. refl)
none_from limit i (g ∷ gs) =
    let first = none_in limit 0 g.transactions in
    let rest = none_from limit (i + 1) gs in
    let both = by_parts i (position_from (λ t. nat_lt limit (length t)) 0 g.transactions) (too_long_from limit (i + 1) gs) in
    let same : too_long_from limit i (g ∷ gs) ≡ option_or
    (option_map (λ k. Transaction i k) (position_from (λ t. nat_lt limit (length t)) 0 g.transactions))
    (too_long_from limit (i + 1) gs) =
    too_long-cons limit i g gs ∙ ap
    (λ (o : Option ℕ). option_or (option_map (λ k. Transaction i k) o) (too_long_from limit (i + 1) gs))
    (position_from-zero (λ t. nat_lt limit (length t)) g.transactions) in (
      λ e. let p = both.0 (sym same ∙ e) in (first.0 p.0, rest.0 p.1),
      λ h. same ∙ both.1 (first.1 h.0, rest.1 h.1),
    )
  where
    by_parts : (i : ℕ) (o : Option ℕ) (p : Option ValueFault) → (option_or (option_map (λ k. Transaction i k) o) p ≡ None)
        ↔ ((o ≡ None) × (p ≡ None))
    by_parts i None p = (λ e. (refl, e), λ h. h.1)
    by_parts i (Some k) p = (λ e. absurd (cc e), λ h. absurd (cc h.0))

-- No fault is reported exactly where there is a group and the limits are kept.
pub no_fault : (limits : Limits) (v : TransmissionValue) → (value_fault limits v ≡ None)
    ↔ ((0 < length v.groups) × FitsIn limits v)
no_fault limits v =
    let tests : (value_fault limits v ≡ None) ↔ ((0 < length v.groups) × (length (rows v) ≤ limits.records)
    × (length v.groups ≤ limits.groups) × (too_long_from limits.transaction 0 v.groups ≡ None)) =
    by_tests (length v.groups) (length (rows v)) limits.records limits.groups (too_long_from limits.transaction 0 v.groups) in
    let long = none_from limits.transaction 0 v.groups in
    let symbols = length-symbols v in
    let groups = length-map v.groups outline_of_group in (
      λ e. let k = tests.0 e in (k.0, (omega (arith, symbols, k.1), omega (arith, groups, k.2), long.0 k.3)),
      λ h. tests.1 (h.0, omega (arith, symbols, h.1.0), omega (arith, groups, h.1.1), long.1 h.1.2),
    )
  where
    by_tests : (n r most_records most_groups : ℕ) (o : Option ValueFault)
        → ((if n == 0 then Some NoGroup else
        (if nat_lt most_records r then Some Records else (if nat_lt most_groups n then Some Groups else o))) ≡ None)
        ↔ ((0 < n) × (r ≤ most_records) × (n ≤ most_groups) × (o ≡ None))
    by_tests n r most_records most_groups o = by (n == 0) (nat_lt most_records r) (nat_lt most_groups n) refl refl refl
      where
        by : (a b c : Bool) → (n == 0) ≡ a → nat_lt most_records r ≡ b → nat_lt most_groups n ≡ c
            → ((if a then Some NoGroup else (if b then Some Records else (if c then Some Groups else o))) ≡ None)
            ↔ ((0 < n) × (r ≤ most_records) × (n ≤ most_groups) × (o ≡ None))
        by true b c p q s = (λ e. absurd (cc e), λ h. absurd (some_not_zero n (eqb-true n 0 p) h.0))
        by false true c p q s = (λ e. absurd (cc e), λ h. absurd (false_is_true (sym (le-ltb most_records r h.1) ∙ q)))
        by false false true p q s = (λ e. absurd (cc e), λ h. absurd (false_is_true (sym (le-ltb most_groups n h.2) ∙ s)))
        by false false false p q s =
            (λ e. (not_zero_some n (eqb-false n 0 p), ltb-false most_records r q, ltb-false most_groups n s, e), λ h. h.3)

-- ---- a turn of the search, and its answer

pub turn : (limit i : ℕ) (items : List GroupValue) (g : GroupValue) (o : Option ℕ) (r : Option ValueFault) → i < length items
    → g ≡ slice_index_or items i g
    → o ≡ position (λ t. nat_lt limit (length t)) g.transactions → too_long_from limit i (drop i items) ≡ r
    → option_or (option_map (λ k. Transaction i k) o) (too_long_from limit (i + 1) (drop (i + 1) items)) ≡ r
turn limit i items g o r less at found e =
    let rest : List GroupValue = drop (i + 1) items in
    let split : too_long_from limit i (drop i items) ≡ too_long_from limit i (g ∷ rest) =
    at_drop_more (too_long_from limit i) items i g less ∙ ap (λ (h : GroupValue). too_long_from limit i (h ∷ rest)) (sym at) in
    ap (λ (p : Option ℕ). option_or (option_map (λ k. Transaction i k) p) (too_long_from limit (i + 1) rest)) found
    ∙ sym (too_long-cons limit i g rest) ∙ sym split ∙ e

pub reported : (limits : Limits) (v : TransmissionValue) (o : Option ValueFault) (e : ValueFault) → o ≡ value_fault limits v
    → o ≡ Some e → (false ≡ true) ↔ ((0 < length v.groups) × FitsIn limits v)
reported limits v o e is some =
    (λ f. absurd (false_is_true f), λ h. absurd (none-some e (sym ((no_fault limits v).1 h) ∙ sym is ∙ some)))

pub none_reported : (limits : Limits) (v : TransmissionValue) (o : Option ValueFault) → o ≡ value_fault limits v → o ≡ None
    → (true ≡ true) ↔ ((0 < length v.groups) × FitsIn limits v)
none_reported limits v o is none = (λ t. (no_fault limits v).0 (sym is ∙ none), λ h. refl)

pub whole : (limits : Limits) (v : TransmissionValue) (o : Option ValueFault) → o ≡ value_fault limits v → o ≡ None
    → IsBegunTransmission v → IsTransmission v
whole limits v o is none begun =
    record { opening = begun.opening; some_group = ((no_fault limits v).0 (sym is ∙ none)).0; each = begun.each }
