-- Digits that are written from the last on into a cell of zeros, until only zeros are left.
use Rattle.std.proofs.Common.{◌≡◌, ℕ, zero, suc, ◌-◌, replicate, List, ◌∷◌, ◌++◌, length, take, drop, set, refl, sym, ap, ◌∙◌}
use Rattle.std.proofs.Common.{arith}
use Rattle.std.proofs.lemmas.List.{take-append-drop, take-replicate, take-set, take-take}
use Rattle.cwr_fields.specs.Format.Bytes.{digits}

-- as many zeros as the cell is wide
abbrev pub zeros : ℕ → List ℕ
zeros n = replicate n 48

zeros-snoc : (n : ℕ) → zeros n ++ zeros 1 ≡ zeros (suc n)
zeros-snoc zero = refl
zeros-snoc (suc n) = ap (λ (l : List ℕ). 48 ∷ l) (zeros-snoc n)

-- the digits of 0 are zeros
digits_of_zero : (n : ℕ) → digits n 0 ≡ zeros n
unfolding digits
digits_of_zero zero = refl
digits_of_zero (suc n) = ap (λ (l : List ℕ). l ++ zeros 1) (digits_of_zero n) ∙ zeros-snoc n

-- what is before the digit that is written stays zeros
pub zeros_before : (cell : List ℕ) (at d : ℕ) → take at cell ≡ zeros at → take (at - 1) (set cell (at - 1) d) ≡ zeros (at - 1)
zeros_before cell at d h =
    take-set cell (at - 1) d ∙ sym (take-take (at - 1) at cell (omega arith)) ∙ ap (take (at - 1)) h
    ∙ take-replicate (at - 1) at 48 (omega arith)

-- once nothing but zeros is left to write, the whole number is written
pub zeros_written : (cell old : List ℕ) (at rest number : ℕ) → rest ≡ 0 → length cell ≡ length old → take at cell ≡ zeros at
    → digits at rest ++ drop at cell ≡ digits (length cell) number → cell ≡ digits (length old) number
zeros_written cell old at rest number none same zeros h =
    sym (take-append-drop at cell)
    ∙ ap (λ (l : List ℕ). l ++ drop at cell) (zeros ∙ sym (digits_of_zero at) ∙ ap (digits at) (sym none))
    ∙ h ∙ ap (λ (w : ℕ). digits w number) same
