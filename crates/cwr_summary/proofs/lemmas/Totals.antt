-- What is counted at a column's place is the sum of what is added to the column.
use Rattle.std.proofs.Common.{◌≡◌, ℕ, ◌+◌, ◌<◌, ◌≤◌, Bool, true, false, List, [], ◌∷◌, length, replicate, refl, sym, ap, ◌∙◌}
use Rattle.std.proofs.Common.{arith, get_or-set_same, if◌then◌else◌, zero, suc}
use Rattle.std.specs.Prelude.{◌==◌, slice_index, sum_by}
use Rattle.std.proofs.lemmas.Bool.{eqb-true, eqb-false}
use Rattle.std.proofs.lemmas.List.Sums.{sum_by-cons}
use Rattle.std.proofs.lemmas.List.{get_or-set_other, length-replicate, length-set}
use Rattle.cwr_summary.specs.declared.columns.Column.{Column}
use Rattle.cwr_summary.specs.Format.Columns.{place}
use Rattle.cwr_summary.specs.Format.Summaries.{Part, total}
use Rattle.cwr_summary.specs.Steps.Counted.{added, counted, held}

-- what a part adds at that place
abbrev at_place : ℕ → Part → ℕ
at_place i p = if place p.0 == i then p.1 else 0

-- a number after one part more
one_added : (numbers : List ℕ) (p : Part) (i : ℕ) → i < length numbers → slice_index numbers i ≤ 18446744073709551615
    → slice_index (added numbers p) i ≡ held (slice_index numbers i + at_place i p)
one_added numbers p i within small = by (place p.0 == i) refl where
  by : (b : Bool) → (place p.0 == i) ≡ b
      → slice_index (added numbers p) i ≡ held (slice_index numbers i + (if b then p.1 else 0))
  by true e =
      let same : place p.0 ≡ i = eqb-true (place p.0) i e in
      ap (λ (k : ℕ). slice_index (added numbers p) k) (sym same)
      ∙ get_or-set_same numbers (place p.0) (held (slice_index numbers (place p.0) + p.1)) 0 (omega (arith, within, same))
      ∙ ap (λ (k : ℕ). held (slice_index numbers k + p.1)) same
  by false e =
      get_or-set_other numbers (place p.0) i (held (slice_index numbers (place p.0) + p.1)) 0 (λ same. eqb-false (place p.0) i e (sym same))
      ∙ omega (arith, small)

numbers_are : (numbers : List ℕ) (parts : List Part) (i : ℕ) → i < length numbers → slice_index numbers i ≤ 18446744073709551615
    → slice_index (counted numbers parts) i ≡ held (slice_index numbers i + sum_by (at_place i) parts)
numbers_are numbers [] i within small = omega (arith, small)
numbers_are numbers (p ∷ parts) i within small =
    let one : slice_index (added numbers p) i ≡ held (slice_index numbers i + at_place i p) = one_added numbers p i within small in
    let more : slice_index (counted (added numbers p) parts) i ≡ held (slice_index (added numbers p) i + sum_by (at_place i) parts) =
    numbers_are (added numbers p) parts i
    (omega (arith, within, length-set numbers (place p.0) (held (slice_index numbers (place p.0) + p.1)))) (omega (arith, one)) in
    let all : sum_by (at_place i) (p ∷ parts) ≡ at_place i p + sum_by (at_place i) parts = sum_by-cons (at_place i) p parts in
    omega (arith, one, more, all)

pub no_number : (n i : ℕ) → slice_index (replicate n 0) i ≡ 0
no_number zero i = refl
no_number (suc n) zero = refl
no_number (suc n) (suc i) = no_number n i

-- a number of a summary is the sum of what is added to its column, as far as 64 bits go
pub number_is_total : (column : Column) (parts : List Part) → place column < 80
    → slice_index (counted (replicate 80 0) parts) (place column) ≡ held (total column parts)
number_is_total column parts within =
    let zero_there : slice_index (replicate 80 0) (place column) ≡ 0 = no_number 80 (place column) in
    let zeros : List ℕ = replicate 80 0 in
    let long : length zeros ≡ 80 = length-replicate {A = ℕ} 80 0 in
    let all : slice_index (counted zeros parts) (place column) ≡ held (slice_index zeros (place column) + total column parts) =
    numbers_are zeros parts (place column) (omega (arith, within, long)) (omega (arith, zero_there)) in
    omega (arith, all, zero_there)
