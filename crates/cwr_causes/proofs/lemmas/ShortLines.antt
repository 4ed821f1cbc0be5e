-- In a line that ends before it no sequence stands.
use Rattle.std.proofs.Common.{◌≡◌, ℕ, ◌+◌, ◌<◌, false, List, [], ◌∷◌, length, take, drop, nat_eq}
use Rattle.std.proofs.Common.{refl, sym, ap, arith}
use Rattle.std.specs.Prelude.{None, Some, if◌then◌else◌}
use Rattle.std.specs.Str.{bytes_eq}
use Rattle.std.proofs.lemmas.Bool.{and_right}
use Rattle.std.proofs.lemmas.List.{length-drop, length-take}
use Rattle.cwr_fields.specs.Format.Bytes.{digits}
use Rattle.cwr_fields.proofs.lemmas.Digits.{length-digits}
use Rattle.cwr_causes.specs.Format.Sequences.{capped_number, sequence_in}

unequal_lengths : (xs ys : List ℕ) → length xs < length ys → bytes_eq xs ys ≡ false
unequal_lengths [] [] h = absurd (omega (arith, h))
unequal_lengths [] (y ∷ ys) h = refl
unequal_lengths (x ∷ xs) [] h = absurd (omega (arith, h))
unequal_lengths (x ∷ xs) (y ∷ ys) h = and_right (nat_eq x y) (bytes_eq xs ys) (unequal_lengths xs ys (omega (arith, h)))

pub none_in_short : (start : ℕ) (line : List ℕ) → length line < start + 8 → None ≡ sequence_in start line
none_in_short start line h =
    let text : List ℕ = take 8 (drop start line) in
    let number : ℕ = capped_number text in
    let short : length text < length (digits 8 number) =
    omega (arith, h, length-take 8 (drop start line), length-drop start line, length-digits 8 number) in
    ap (λ b. if b then Some number else None) (sym (unequal_lengths text (digits 8 number) short))
