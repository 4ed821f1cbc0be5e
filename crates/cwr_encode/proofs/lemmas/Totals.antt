-- What counting the records and transactions of groups gives.
use Rattle.std.proofs.Common.{◌≡◌, ℕ, zero, suc, ◌+◌, ◌-◌, ◌^◌, ◌≤◌, min, List, [], ◌∷◌, length, map, take, Some, None, refl, sym}
use Rattle.std.proofs.Common.{ap, ◌∙◌, arith}
use Rattle.std.specs.Prelude.{slice_get, sum_by}
use Rattle.std.proofs.lemmas.List.{take_all}
use Rattle.std.proofs.lemmas.List.Sums.{sum_by-cons}
use Rattle.cwr_lines.specs.Format.Records.{RecordValue}
use Rattle.cwr_shape.specs.Format.Numbers.{group_records, all_records}
use Rattle.cwr_values.specs.Format.Values.{GroupValue, TransmissionValue}
use Rattle.cwr_values.specs.Format.Rows.{lengths_of_value}
use Rattle.cwr_values.proofs.lemmas.Grouping.{count_records, group_counted}
use Rattle.cwr_encode.proofs.lemmas.PutRows.{none_within}

step_by : {A : Type 0} (f : A → ℕ) (xs : List A) (i : ℕ) (x : A) → Some x ≡ slice_get xs i
    → sum_by f (take (suc i) xs) ≡ sum_by f (take i xs) + f x
step_by f [] i x e = absurd (cc e)
step_by f (y ∷ xs) zero x e = let same : y ≡ x = cc e in omega (arith, sum_by-cons f y [], ap f same)
step_by f (y ∷ xs) (suc i) x e = omega (arith, sum_by-cons f y (take (suc i) xs), sum_by-cons f y (take i xs), step_by f xs i x e)

suc_is : (i : ℕ) → suc i ≡ i + 1
suc_is i = omega arith

-- with one more
pub sum_step : {A : Type 0} (f : A → ℕ) (xs : List A) (i : ℕ) (x : A) → Some x ≡ slice_get xs i
    → sum_by f (take (i + 1) xs) ≡ sum_by f (take i xs) + f x
sum_step f xs i x e = ap (λ (n : ℕ). sum_by f (take n xs)) (sym (suc_is i)) ∙ step_by f xs i x e

sum_mapped : {A B : Type 0} (f : A → B) (g : B → ℕ) (xs : List A) → sum_by g (map f xs) ≡ sum_by (λ x. g (f x)) xs
sum_mapped f g [] = refl
sum_mapped f g (x ∷ xs) = omega (arith, sum_by-cons g (f x) (map f xs), sum_by-cons (λ y. g (f y)) x xs, sum_mapped f g xs)

-- the sum over all, where counting ended
pub sum_whole : {A : Type 0} (f : A → ℕ) (xs : List A) (i : ℕ) → None ≡ slice_get xs i → sum_by f (take i xs) ≡ sum_by f xs
sum_whole f xs i e = ap (sum_by f) (take_all i xs (none_within xs i e))

pub group_total : (g : GroupValue) (i n : ℕ) → n ≡ min (2 + sum_by length (take i g.transactions)) (2 ^ 64 - 1)
    → None ≡ slice_get g.transactions i → group_records (map length g.transactions) ≤ 99999999
    → n ≡ group_records (map length g.transactions)
group_total g i n e none few = omega (arith, group_counted g g.transactions i n e (none_within g.transactions i none) refl, few)

pub transactions_total : (v : TransmissionValue) (i n : ℕ)
    → n ≡ min (sum_by (λ g. length g.transactions) (take i v.groups)) (2 ^ 64 - 1) → None ≡ slice_get v.groups i
    → sum_by length (lengths_of_value v) ≤ 99999999
    → n ≡ sum_by length (lengths_of_value v)
transactions_total v i n e none few =
    let same : sum_by length (lengths_of_value v) ≡ sum_by (λ g. length g.transactions) v.groups =
    sum_mapped (λ g. map length g.transactions) length v.groups ∙ lengths v.groups in
    omega (arith, e, sum_whole (λ g. length g.transactions) v.groups i none, same, few)
  where
    lengths : (gs : List GroupValue)
        → sum_by (λ g. length (map length g.transactions)) gs ≡ sum_by (λ g. length g.transactions) gs
    lengths [] = refl
    lengths (g ∷ gs) =
        omega (
          arith,
          sum_by-cons (λ h. length (map length h.transactions)) g gs,
          sum_by-cons (λ h. length h.transactions) g gs,
          lengths gs,
          mapped g.transactions,
        )
      where
        mapped : (ts : List (List RecordValue)) → length (map length ts) ≡ length ts
        mapped [] = refl
        mapped (t ∷ ts) = omega (arith, mapped ts)

pub records_total : (v : TransmissionValue) (i n : ℕ) → n ≡ min (2 + sum_by count_records (take i v.groups)) (2 ^ 64 - 1)
    → None ≡ slice_get v.groups i → all_records (lengths_of_value v) ≤ 99999999
    → n ≡ all_records (lengths_of_value v)
records_total v i n e none few =
    omega (
      arith,
      e,
      sum_whole count_records v.groups i none,
      sum_mapped (λ g. map length g.transactions) group_records v.groups,
      few,
    )
