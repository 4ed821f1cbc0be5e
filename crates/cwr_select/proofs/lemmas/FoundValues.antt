-- A value is found by a binary search of a sorted list exactly where the list has it.
use Rattle.std.proofs.Common.{Equal, true, ◌≡◌, ℕ, Bool, false, List, length, get_or, sym, ap, ◌∙◌, arith}
use Rattle.std.specs.Prelude.{Result, Ok, Err, All, IsSorted, is_ok}
use Rattle.std.specs.List.{HoldsAt, list_any}
use Rattle.std.specs.List.Sorted.{IsBinarySearchResult, IsSearchInRange}
use Rattle.std.specs.Cmp.{IsTotalOrder}
use Rattle.std.specs.Ordering.{is_eq}
use Rattle.std.specs.declared.cmp.Ordering.{Ordering}
use Rattle.std.proofs.lemmas.List.Folds.{list_any_at, list_any_none}
use Rattle.std.proofs.lemmas.List.Sorted.{searchable_from_sorted}
use mathlib.Core.Logic
use native.Mathlib.Decide

pub found : {K : Type 0} (R : K → K → Ordering) (o : IsTotalOrder R) (eq : K → K → Bool)
    → ((a b : K) → is_eq (R a b) ≡ eq a b) → (xs : List K) (x : K) (r : Result ℕ ℕ) → IsSorted R xs
    → IsSearchInRange r (length xs) → IsBinarySearchResult (λ y. R y x) xs r → is_ok r ≡ list_any (λ y. eq y x) xs
found R o eq ties xs x (Ok i) sorted within at =
    sym (list_any_at (λ y. eq y x) xs i x within (sym (ties (get_or xs i x) x) ∙ ap is_eq (at x)))
found {K = K} R o eq ties xs x (Err i) sorted within point =
    let parted = point (searchable_from_sorted o (λ k. k) xs x sorted) in
    let none : All (λ y. eq y x ≡ false) xs = λ k d lt.
    mathlib.Core.Logic.dite (native.Mathlib.Decide.dec_le i k)
    (λ after. sym (ties (get_or xs k d) x) ∙ ap is_eq (parted.1 k d after lt))
    (λ before. sym (ties (get_or xs k d) x) ∙ ap is_eq (parted.0 k d (omega arith) (omega arith))) in
    sym (list_any_none (λ y. eq y x) xs none)

-- where it is found, it is the one that was asked for
pub found_here : {K : Type 0} (R : K → K → Ordering) (eq : K → K → Bool) → ((a b : K) → is_eq (R a b) ≡ eq a b)
    → (xs : List K) (x : K) (i : ℕ) → HoldsAt (λ y. R y x ≡ Equal) xs i → HoldsAt (λ y. eq y x ≡ true) xs i
found_here R eq ties xs x i at = λ d. sym (ties (get_or xs i d) x) ∙ ap is_eq (at d)
