-- The digits of a work code by their factors.
use Rattle.std.proofs.Common.{◌≡◌, ℕ, ◌+◌, ◌-◌, ◌*◌, ◌<◌, ◌≤◌, List, length, take, map, get_or, refl, ap, ◌∙◌, true, leb, arith}
use Rattle.std.specs.List.{sum_by, zip}
use Rattle.std.proofs.Math.Nat.{mul-le-mul}
use Rattle.std.proofs.lemmas.Bool.{leb-true}
use Rattle.std.proofs.lemmas.List.{get_or-map, length-map}
use Rattle.std.proofs.lemmas.List.Sums.{sum_by_more, AllPass-from_list_all}
use Rattle.std.proofs.lemmas.Slice.Zip.{length-zip, get_or-zip}
use Rattle.cwr_fields.specs.Format.Bytes.{are_digits, is_digit}
use Rattle.cwr_fields.specs.Format.Iswc.{factors}
use Rattle.cwr_fields.proofs.lemmas.Spellings.{digit_bounds}

-- the factors with the digits' values
abbrev pub pairs : List ℕ → List (ℕ × ℕ)
pairs cell = zip factors (map (λ b. b - 48) cell)

-- the sum of the first digits by their factors
abbrev pub weight : ℕ → List ℕ → ℕ
weight count cell = sum_by (λ p. p.0 * p.1) (take count (pairs cell))

pub weight-more : (count : ℕ) (cell : List ℕ) → count < 10 → count < length cell
    → weight (count + 1) cell ≡ weight count cell + get_or factors count 0 * (get_or cell count 0 - 48)
weight-more count cell few inside =
    let wide : length (map (λ b. b - 48) cell) ≡ length cell = length-map cell (λ b. b - 48) in
    let there : count < length (pairs cell) = omega (arith, wide, length-zip factors (map (λ b. b - 48) cell)) in
    let digit : get_or (map (λ b. b - 48) cell) count 0 ≡ get_or cell count 0 - 48 =
    get_or-map (λ b. b - 48) cell count 0 0 inside in
    let pair : get_or (pairs cell) count (0, 0) ≡ (get_or factors count 0, get_or (map (λ b. b - 48) cell) count 0) =
    get_or-zip factors (map (λ b. b - 48) cell) count (0, 0) few (omega arith) in
    sum_by_more (λ (p : ℕ × ℕ). p.0 * p.1) (pairs cell) count (0, 0) there
    ∙ ap (λ (p : ℕ × ℕ). weight count cell + p.0 * p.1) pair
    ∙ ap (λ n. weight count cell + get_or factors count 0 * n) digit

factor_at_most : (count : ℕ) → count < 10 → get_or factors count 0 ≤ 9
factor_at_most count few = leb-true (get_or factors count 0) 9 (AllPass-from_list_all (λ f. leb f 9) factors refl count 0 few)

-- a digit's value by its factor is at most 81
pub weight_at_most : (count : ℕ) (cell : List ℕ) → are_digits cell ≡ true → count < 10 → count < length cell
    → get_or factors count 0 * (get_or cell count 0 - 48) ≤ 81
weight_at_most count cell digits few inside =
    let digit = digit_bounds (get_or cell count 0) (AllPass-from_list_all is_digit cell digits count 0 inside) in
    let value : get_or cell count 0 - 48 ≤ 9 = omega (arith, digit.0, digit.1) in
    let both : get_or factors count 0 * (get_or cell count 0 - 48) ≤ 9 * 9 = mul-le-mul (factor_at_most count few) value in
    omega arith
