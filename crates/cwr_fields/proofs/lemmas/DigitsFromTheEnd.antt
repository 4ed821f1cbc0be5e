-- The digits of a number, from the end of a cell.
use Rattle.std.proofs.Common.{◌≡◌, ◌≢◌, ℕ, suc, ◌+◌, ◌-◌, ◌/◌, ◌%◌, ◌≤◌, length, take, get_or, sym, List, [], ◌∷◌, ◌++◌, refl, ap}
use Rattle.std.proofs.Common.{ap₂, subst, ◌∙◌, arith}
use Rattle.std.specs.Prelude.{◌↔◌}
use Rattle.std.proofs.lemmas.List.{length-append}
use Rattle.cwr_fields.specs.Format.Bytes.{digits}
use Rattle.cwr_fields.specs.Format.NumberLaws.{snoc_equal}
use Rattle.cwr_fields.proofs.lemmas.Trims.{ends_in}

-- the cell is the digits of the number
abbrev pub SpellsDigits : List ℕ → ℕ → Type 0
SpellsDigits cell n = cell ≡ digits (length cell) n

spells-snoc : (front : List ℕ) (last n : ℕ) → SpellsDigits (front ++ last ∷ []) n
    ↔ (SpellsDigits front (n / 10) × (last ≡ 48 + n % 10))
unfolding digits
spells-snoc front last n =
    let many : length (front ++ last ∷ []) ≡ suc (length front) = omega (arith, length-append front (last ∷ [])) in (
      λ e. snoc_equal front (digits (length front) (n / 10)) last (48 + n % 10) (e ∙ ap (λ (w : ℕ). digits w n) many),
      λ p. ap₂ (λ (xs : List ℕ) (b : ℕ). xs ++ b ∷ []) p.0 p.1 ∙ sym (ap (λ (w : ℕ). digits w n) many),
    )

-- where the last digit is right, the digits before it decide
pub spells-front : (text : List ℕ) (last n : ℕ) → 1 ≤ length text → last ≡ get_or text (length text - 1) 0 → last ≡ 48 + n % 10
    → SpellsDigits (take (length text - 1) text) (n / 10) ↔ SpellsDigits text n
spells-front text last n some is right =
    let front : List ℕ = take (length text - 1) text in
    let whole : text ≡ front ++ last ∷ [] = ends_in text some ∙ ap (λ (b : ℕ). front ++ b ∷ []) (sym is) in
    let both = spells-snoc front last n in (
      λ h. subst (λ (t : List ℕ). SpellsDigits t n) (sym whole) (both.1 (h, right)),
      λ h. (both.0 (subst (λ (t : List ℕ). SpellsDigits t n) whole h)).0,
    )

-- where the last digit is wrong, the text isn't the number
pub spells-wrong : (text : List ℕ) (last n : ℕ) → 1 ≤ length text → last ≡ get_or text (length text - 1) 0 → last ≢ 48 + n % 10
    → ¬ SpellsDigits text n
spells-wrong text last n some is wrong h =
    let front : List ℕ = take (length text - 1) text in
    let whole : text ≡ front ++ last ∷ [] = ends_in text some ∙ ap (λ (b : ℕ). front ++ b ∷ []) (sym is) in
    wrong ((spells-snoc front last n).0 (subst (λ (t : List ℕ). SpellsDigits t n) whole h)).1

-- the empty text is the last digits of each number, none of them
pub spells-none : (text : List ℕ) (n : ℕ) → length text ≡ 0 → SpellsDigits text n
unfolding digits
spells-none [] n e = refl
spells-none (b ∷ text) n e = absurd (omega arith)
