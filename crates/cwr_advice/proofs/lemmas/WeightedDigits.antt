-- Digits by their weights, added up pair by pair.
use Rattle.std.proofs.Common.{◌≡◌, ℕ, ◌+◌, ◌-◌, ◌*◌, ◌<◌, ◌≤◌, List, length, take, get_or, sym, ap, ap₂, ◌∙◌, arith, min}
use Rattle.std.specs.List.{zip}
use Rattle.std.proofs.Math.Nat.{mul-le-mul}
use Rattle.std.proofs.lemmas.List.{take_all}
use Rattle.std.proofs.lemmas.List.Sums.{sum_by_more}
use Rattle.std.proofs.lemmas.Slice.Zip.{length-zip, get_or-zip}
use Rattle.cwr_advice.specs.Format.Numbers.{weighted, weighted_pairs}

-- the first pairs, added up
abbrev pub first_pairs : ℕ → List ℕ → List ℕ → ℕ
first_pairs n weights digits = weighted_pairs (take n (zip weights digits))

pub pairs_more : (n m : ℕ) (weights digits : List ℕ) (w d : ℕ) → m ≡ n + 1 → n < length weights → n < length digits
    → w ≡ get_or weights n 0 → d ≡ get_or digits n 0
    → first_pairs m weights digits ≡ first_pairs n weights digits + w * (d - 48)
pairs_more n m weights digits w d next few inside e f =
    let there : n < length (zip weights digits) = omega (arith, few, inside, length-zip weights digits) in
    ap (λ (k : ℕ). first_pairs k weights digits) next
    ∙ sum_by_more (λ (p : ℕ × ℕ). p.0 * (p.1 - 48)) (zip weights digits) n (0, 0) there
    ∙ ap (λ (p : ℕ × ℕ). first_pairs n weights digits + p.0 * (p.1 - 48)) (get_or-zip weights digits n (0, 0) few inside)
    ∙ ap₂ (λ (a b : ℕ). first_pairs n weights digits + a * (b - 48)) (sym e) (sym f)

pub pairs_whole : (n : ℕ) (weights digits : List ℕ) → n ≡ min (length weights) (length digits)
    → first_pairs n weights digits ≡ weighted weights digits
pairs_whole n weights digits e = ap weighted_pairs (take_all n (zip weights digits) (omega (arith, e, length-zip weights digits)))

pub pair_at_most : (w d : ℕ) → w < 256 → d < 256 → w * d ≤ 65025
pair_at_most w d p q =
    let weight : w ≤ 255 =
    omega (arith, p) in let digit : d ≤ 255 = omega (arith, q) in let within : w * d ≤ 255 * 255 =
    mul-le-mul weight digit in omega (arith, within)
