-- What a transmission has in a column its transactions have there, and so have the parts of a split together.
use Rattle.std.proofs.Common.{◌≡◌, ℕ, zero, suc, ◌+◌, ◌<◌, ◌≤◌, Bool, true, false, inl, inr, List, [], ◌∷◌, ◌++◌, length, map, take, drop}
use Rattle.std.proofs.Common.{refl, sym, ap, subst, ◌∙◌, arith}
use Rattle.std.specs.Prelude.{◌==◌, ◌⊎◌, cond, filter, flat_map, nat_lt, sum_by}
use Rattle.std.specs.List.{AllByRecursion, enumerate_from}
use Rattle.std.proofs.lemmas.Bool.{eq-eqb, lt-ltb, ne_eqb}
use Rattle.std.proofs.lemmas.List.{length-drop, length-take, take-append-drop}
use Rattle.std.proofs.lemmas.List.Sums.{sum_by-append, sum_by-cons}
use Rattle.cwr_fields.specs.declared.kinds.Kind.TheVariants as kinds
use Rattle.cwr_lines.specs.Format.Records.{RecordValue, blank_record}
use Rattle.cwr_values.specs.Format.Values.{GroupValue, IsGroup, IsTransmission, TransmissionValue}
use Rattle.cwr_judge.specs.Format.Items.{group_items}
use Rattle.cwr_parts.specs.Format.Splits.{group_part, groups_in, runs, split_of, transactions_by_group}
use Rattle.cwr_parts.proofs.lemmas.RunsOfLists.{runs_last, runs_more, runs_none}
use Rattle.cwr_summary.specs.declared.columns.Column.{Column}
use Rattle.cwr_summary.specs.Format.Laws.{amount, is_of_ends, is_of_groups}
use Rattle.cwr_summary.specs.Format.Summaries.{parts_of, total}
use Rattle.cwr_summary.proofs.lemmas.Summed.{add_up}
use Rattle.cwr_summary.proofs.lemmas.Wholes.{by_groups, of_group, of_transaction}

-- transactions, each under the place of its group
abbrev Placed : Type 0
Placed = List (ℕ × List RecordValue)

-- those under the place
abbrev at : ℕ → Placed → List (List RecordValue)
at place run = map (λ p. p.1) (filter (λ p. p.0 == place) run)

-- a place is one of those of so many groups
abbrev IsIn : ℕ → ℕ → ℕ × List RecordValue → Type 0
IsIn low high p = (low ≤ p.0) × (p.0 < high)

-- ---- sums

sum_of_both : {X : Type 0} (f g h : X → ℕ) (xs : List X) → ((x : X) → h x ≡ f x + g x) → sum_by h xs ≡ sum_by f xs + sum_by g xs
sum_of_both f g h [] both = refl
sum_of_both f g h (x ∷ xs) both =
    let one = both x in
    let rest = sum_of_both f g h xs both in
    let a = sum_by-cons h x xs in
    let b = sum_by-cons f x xs in
    let c = sum_by-cons g x xs in
    omega (arith, one, rest, a, b, c)

sum_of_none : {X : Type 0} (xs : List X) → sum_by (λ x. 0) xs ≡ 0
sum_of_none [] = refl
sum_of_none {X = X} (x ∷ xs) =
    let rest = sum_of_none xs in
    let all = sum_by-cons (λ (y : X). 0) x xs in
    omega (arith, rest, all)

sum_of_mapped : {X Y : Type 0} (f : Y → ℕ) (g : X → Y) (xs : List X) → sum_by f (map g xs) ≡ sum_by (λ x. f (g x)) xs
sum_of_mapped f g [] = refl
sum_of_mapped {X = X} f g (x ∷ xs) =
    let rest = sum_of_mapped f g xs in
    let a = sum_by-cons f (g x) (map g xs) in
    let b = sum_by-cons (λ (y : X). f (g y)) x xs in
    omega (arith, rest, a, b)

-- what is counted at one place alone
missed : (i x k : ℕ) (gs : List GroupValue) → i < k → sum_by (λ q. cond (i == q.0) x 0) (enumerate_from k gs) ≡ 0
missed i x k [] lt = refl
missed i x k (g ∷ gs) lt =
    let rest = missed i x (k + 1) gs (omega (arith, lt)) in
    let all = sum_by-cons (λ (q : ℕ × GroupValue). cond (i == q.0) x 0) (k, g) (enumerate_from (k + 1) gs) in
    let none : cond (i == k) x 0 ≡ 0 = ap (λ (b : Bool). cond b x 0) (ne_eqb i k (λ e. omega (arith, e, lt))) in
    omega (arith, rest, all, none)

same_or_more : (a b : ℕ) → a ≤ b → (a ≡ b) ⊎ (a < b)
same_or_more zero zero le = inl refl
same_or_more zero (suc b) le = inr (omega arith)
same_or_more (suc a) zero le = absurd (omega (arith, le))
same_or_more (suc a) (suc b) le =
    elim (same_or_more a b (omega (arith, le))) [
      | inl e ↦ inl (ap (λ (n : ℕ). suc n) e)
      | inr lt ↦ inr (omega (arith, lt))
    ]

met : (i x k : ℕ) (gs : List GroupValue) → k ≤ i → i < k + length gs → sum_by (λ q. cond (i == q.0) x 0) (enumerate_from k gs) ≡ x
met i x k [] low high = absurd (omega (arith, low, high))
met i x k (g ∷ gs) low high =
    by (same_or_more k i low) (λ lt. met i x (k + 1) gs (omega (arith, lt)) (omega (arith, high)))
  where
    by : (k ≡ i) ⊎ (k < i) → (k < i → sum_by (λ q. cond (i == q.0) x 0) (enumerate_from (k + 1) gs) ≡ x)
        → sum_by (λ q. cond (i == q.0) x 0) (enumerate_from k (g ∷ gs)) ≡ x
    by (inl e) later =
        let rest = missed i x (k + 1) gs (omega (arith, e)) in
        let all = sum_by-cons (λ (q : ℕ × GroupValue). cond (i == q.0) x 0) (k, g) (enumerate_from (k + 1) gs) in
        let here : cond (i == k) x 0 ≡ x = ap (λ (b : Bool). cond b x 0) (eq-eqb i k (sym e)) in
        omega (arith, rest, all, here)
    by (inr lt) later =
        let rest = later lt in
        let all = sum_by-cons (λ (q : ℕ × GroupValue). cond (i == q.0) x 0) (k, g) (enumerate_from (k + 1) gs) in
        let none : cond (i == k) x 0 ≡ 0 = ap (λ (b : Bool). cond b x 0) (ne_eqb i k (λ e. omega (arith, e, lt))) in
        omega (arith, rest, all, none)

-- ---- the transactions of a run, by the places of their groups

module _ (f : List RecordValue → ℕ) where
  one_at : (p : ℕ × List RecordValue) (run : Placed) (place : ℕ)
      → sum_by f (at place (p ∷ run)) ≡ cond (p.0 == place) (f p.1) 0 + sum_by f (at place run)
  one_at p run place = by (p.0 == place)
    where
      by : (b : Bool) → sum_by f (map (λ q. q.1) (cond b (p ∷ filter (λ q. q.0 == place) run) (filter (λ q. q.0 == place) run)))
          ≡ cond b (f p.1) 0 + sum_by f (at place run)
      by true = sum_by-cons f p.1 (at place run)
      by false = omega arith

  by_places : (k : ℕ) (gs : List GroupValue) (run : Placed) → AllByRecursion (IsIn k (k + length gs)) run
      → sum_by (λ q. sum_by f (at q.0 run)) (enumerate_from k gs) ≡ sum_by (λ p. f p.1) run
  by_places k gs [] each = sum_of_none (enumerate_from k gs)
  by_places k gs (p ∷ run) each =
      let places : List (ℕ × GroupValue) = enumerate_from k gs in
      let both = sum_of_both (λ (q : ℕ × GroupValue). cond (p.0 == q.0) (f p.1) 0) (λ q. sum_by f (at q.0 run))
      (λ q. sum_by f (at q.0 (p ∷ run))) places (λ q. one_at p run q.0) in
      let here = met p.0 (f p.1) k gs each.0.0 each.0.1 in
      let rest = by_places k gs run each.1 in
      let all = sum_by-cons (λ (q : ℕ × List RecordValue). f q.1) p run in
      omega (arith, both, here, rest, all)

  -- those of groups
  by_transactions : (k : ℕ) (gs : List GroupValue)
      → sum_by (λ (p : ℕ × List RecordValue). f p.1) (flat_map (λ g. map (λ t. (g.0, t)) g.1.transactions) (enumerate_from k gs))
      ≡ sum_by (λ (g : GroupValue). sum_by f g.transactions) gs
  by_transactions k [] = refl
  by_transactions k (g ∷ gs) =
      let first : Placed = map (λ t. (k, t)) g.transactions in
      let later : Placed = flat_map (λ h. map (λ t. (h.0, t)) h.1.transactions) (enumerate_from (k + 1) gs) in
      let both = sum_by-append (λ (p : ℕ × List RecordValue). f p.1) first later in
      let one = sum_of_mapped (λ (p : ℕ × List RecordValue). f p.1) (λ t. (k, t)) g.transactions in
      let rest = by_transactions (k + 1) gs in
      let all = sum_by-cons (λ (h : GroupValue). sum_by f h.transactions) g gs in
      omega (arith, both, one, rest, all)

-- ---- runs

all_of_both : {X : Type 0} (P : X → Type 0) (xs ys : List X) → AllByRecursion P (xs ++ ys) → AllByRecursion P xs × AllByRecursion P ys
all_of_both P [] ys each = (tt, each)
all_of_both P (x ∷ xs) ys each = let rest = all_of_both P xs ys each.1 in ((each.0, rest.0), rest.1)

all_together : {X : Type 0} (P : X → Type 0) (xs ys : List X) → AllByRecursion P xs → AllByRecursion P ys → AllByRecursion P (xs ++ ys)
all_together P [] ys front back = back
all_together P (x ∷ xs) ys front back = (front.0, all_together P xs ys front.1 back)

short_or_long : (n m : ℕ) → (n ≤ m) ⊎ (m < n)
short_or_long zero m = inl (omega arith)
short_or_long (suc n) zero = inr (omega arith)
short_or_long (suc n) (suc m) =
    elim (short_or_long n m) [ inl le ↦ inl (omega (arith, le)) | inr lt ↦ inr (omega (arith, lt)) ]

-- what is so of each run is so of all together
by_runs : {X : Type 0} (P : X → Type 0) (h : List X → ℕ) (f : X → ℕ) (n : ℕ) → 0 < n
    → ((run : List X) → AllByRecursion P run → h run ≡ sum_by f run) → (most : ℕ) (xs : List X) → length xs ≤ most
    → AllByRecursion P xs → sum_by h (runs n xs) ≡ sum_by f xs
by_runs P h f n some is most [] few each = ap (sum_by h) (runs_none n some)
by_runs P h f n some is zero (x ∷ xs) few each = absurd (omega (arith, few))
by_runs {X = X} P h f n some is (suc most) (x ∷ xs) few each =
    by (short_or_long (length (x ∷ xs)) n) (λ left all. by_runs {X = X} P h f n some is most (drop n (x ∷ xs)) left all)
  where
    by : (length (x ∷ xs) ≤ n) ⊎ (n < length (x ∷ xs))
        → (length (drop n (x ∷ xs)) ≤ most → AllByRecursion P (drop n (x ∷ xs))
        → sum_by h (runs n (drop n (x ∷ xs))) ≡ sum_by f (drop n (x ∷ xs))) → sum_by h (runs n (x ∷ xs)) ≡ sum_by f (x ∷ xs)
    by (inl short) later =
        let one = ap (sum_by h) (runs_last n x xs short) in
        let all = sum_by-cons h (x ∷ xs) [] in
        let same = is (x ∷ xs) each in
        omega (arith, one, all, same)
    by (inr long) later =
        let zs : List X = x ∷ xs in
        let front : List X = take n zs in
        let back : List X = drop n zs in
        let whole : front ++ back ≡ zs = take-append-drop n zs in
        let parts = all_of_both P front back (subst (AllByRecursion P) (sym whole) each) in
        let full : length front ≡ n = omega (arith, length-take n zs, long) in
        let left : length back ≤ most = omega (arith, length-drop n zs, few, some, long) in
        let runs_are = ap (λ (l : List X). sum_by h (runs n l)) (sym whole) ∙ ap (sum_by h) (runs_more n front back some full) in
        let first = sum_by-cons h front (runs n back) in
        let same = is front parts.0 in
        let rest = later left parts.1 in
        let all = sym (ap (sum_by f) whole) ∙ sum_by-append f front back in
        omega (arith, runs_are, first, same, rest, all)

-- ---- the parts of a split

-- each transaction is under the place of a group
all_in : (low high k : ℕ) (gs : List GroupValue) → low ≤ k → k + length gs ≤ high
    → AllByRecursion (IsIn low high) (flat_map (λ g. map (λ t. (g.0, t)) g.1.transactions) (enumerate_from k gs))
all_in low high k [] above below = tt
all_in low high k (g ∷ gs) above below =
    all_together (IsIn low high) (map (λ t. (k, t)) g.transactions) _ (here g.transactions)
    (all_in low high (k + 1) gs (omega (arith, above)) (omega (arith, below)))
  where
    here : (ts : List (List RecordValue)) → AllByRecursion (IsIn low high) (map (λ t. (k, t)) ts)
    here [] = tt
    here (t ∷ ts) = ((above, omega (arith, below)), here ts)

module _ (column : Column) (other : is_of_groups column ≡ false) where
  -- the groups of a transmission
  of_groups : (gs : List GroupValue) → AllByRecursion IsGroup gs
      → total column (parts_of (flat_map group_items gs)) ≡ sum_by (λ g. sum_by (of_transaction column) g.transactions) gs
  of_groups [] each = refl
  of_groups (g ∷ gs) each =
      let both = add_up column (group_items g) (flat_map group_items gs) in
      let one = of_group column g other each.0.head.0 each.0.foot.0 in
      let rest = of_groups gs each.1 in
      let all = sum_by-cons (λ (h : GroupValue). sum_by (of_transaction column) h.transactions) g gs in
      omega (arith, both, one, rest, all)

  -- one that may have no transactions, and then is left out
  of_one : (head : RecordValue) (ts : List (List RecordValue)) (later : List GroupValue) → head.kind ≡ kinds.Grh
      → total column (parts_of (flat_map group_items (cond (nat_lt 0 (length ts))
      (record { head = head; transactions = ts; foot = blank_record kinds.Grt } ∷ later) later)))
      ≡ sum_by (of_transaction column) ts + total column (parts_of (flat_map group_items later))
  of_one head [] later is = omega arith
  of_one head (t ∷ ts) later is =
      let g : GroupValue = record { head = head; transactions = t ∷ ts; foot = blank_record kinds.Grt } in
      ap (λ (b : Bool). total column (parts_of (flat_map group_items (cond b (g ∷ later) later)))) (lt-ltb 0 (length (t ∷ ts)) (omega arith))
      ∙ add_up column (group_items g) (flat_map group_items later)
      ∙ ap (λ (n : ℕ). n + total column (parts_of (flat_map group_items later))) (of_group column g other is refl)

  -- those of a part, which have the transactions of a run
  of_part : (run : Placed) (k : ℕ) (gs : List GroupValue) → AllByRecursion IsGroup gs
      → total column (parts_of (flat_map group_items (filter (λ g. nat_lt 0 (length g.transactions))
      (map (λ p. group_part run p.0 p.1) (enumerate_from k gs)))))
      ≡ sum_by (λ q. sum_by (of_transaction column) (at q.0 run)) (enumerate_from k gs)
  of_part run k [] each = refl
  of_part run k (g ∷ gs) each =
      let later : List GroupValue = filter (λ h. nat_lt 0 (length h.transactions))
      (map (λ p. group_part run p.0 p.1) (enumerate_from (k + 1) gs)) in
      let one = of_one g.head (at k run) later each.0.head.0 in
      let rest = of_part run (k + 1) gs each.1 in
      let all = sum_by-cons (λ (q : ℕ × GroupValue). sum_by (of_transaction column) (at q.0 run)) (k, g) (enumerate_from (k + 1) gs) in
      omega (arith, one, rest, all)

pub splits_add : (column : Column) (n : ℕ) (v : TransmissionValue) → is_of_ends column ≡ false → is_of_groups column ≡ false → 0 < n
    → IsTransmission v → sum_by (amount column) (split_of n v) ≡ amount column v
splits_add column n v ends groups some whole =
    let f : List RecordValue → ℕ = of_transaction column in
    let part : Placed → TransmissionValue = λ run. record { opening = v.opening; groups = groups_in run v.groups } in
    let placed : Placed = transactions_by_group v in
    let parts = sum_of_mapped (amount column) part (runs n placed) in
    let each = by_runs (IsIn 0 (0 + length v.groups)) (λ run. amount column (part run)) (λ p. f p.1) n some
    (λ run within. by_groups column (part run) ends whole.opening.0 ∙ of_part column groups run 0 v.groups whole.each
    ∙ by_places f 0 v.groups run within) (length placed) placed (omega arith)
    (all_in 0 (0 + length v.groups) 0 v.groups (omega arith) (omega arith)) in
    parts ∙ each ∙ by_transactions f 0 v.groups ∙ sym (of_groups column groups v.groups whole.each)
    ∙ sym (by_groups column v ends whole.opening.0)
