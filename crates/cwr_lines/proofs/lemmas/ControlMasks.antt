-- Which of some lanes are control bytes, as the bits of a mask.
use Rattle.std.proofs.Common.{◌≡◌, ℕ, ◌%◌, ◌^◌, ltb, eqb, Bool, true, false, cond, ◌||◌, List, [], ◌∷◌, map, length}
use Rattle.std.proofs.Common.{replicate, refl, ap, ap₂, ◌∙◌, arith}
use Rattle.std.proofs.lemmas.List.{length-map}
use Rattle.std.proofs.lemmas.Simd.{zip2_splat, zip2_of_maps, mask_l-mod}
use Rattle.cwr_fields.specs.Format.Bytes.{is_control}
use lib.Lanes.{zip2, mask_l, top}
use lib.Bits.{bit_or}

-- the lane that says of a byte whether it is a control byte
abbrev lane : ℕ → ℕ
lane b = bit_or (cond (ltb b 32) 255 0) (cond (eqb b 127) 255 0)

either : (p q : Bool) → top 7 (bit_or (cond p 255 0) (cond q 255 0)) ≡ (p || q)
either true true = refl
either true false = refl
either false true = refl
either false false = refl

tops : (bytes : List ℕ) → map (top 7) (map lane bytes) ≡ map is_control bytes
tops [] = refl
tops (b ∷ bytes) = ap₂ (λ (x : Bool) (xs : List Bool). x ∷ xs) (either (ltb b 32) (eqb b 127)) (tops bytes)

-- the bits of the mask that two comparisons make
pub control_bits : (bytes : List ℕ) → length bytes ≡ 32
    → mask_l (map (top 7) (zip2 bit_or (zip2 (λ a b. cond (ltb a b) 255 0) bytes (replicate 32 32))
    (zip2 (λ a b. cond (eqb a b) 255 0) bytes (replicate 32 127)))) % 2 ^ 64
    ≡ mask_l (map is_control bytes)
control_bits bytes long =
    ap (λ (ms : List Bool). mask_l ms % 2 ^ 64)
    (ap (map (top 7)) (zip2_of_maps bit_or (λ b. cond (ltb b 32) 255 0) (λ b. cond (eqb b 127) 255 0) bytes
    (zip2_splat (λ a b. cond (ltb a b) 255 0) bytes 32 32 long) (zip2_splat (λ a b. cond (eqb a b) 255 0) bytes 32 127 long))
    ∙ tops bytes)
    ∙ mask_l-mod (map is_control bytes) 64 (omega (arith, length-map bytes is_control))
