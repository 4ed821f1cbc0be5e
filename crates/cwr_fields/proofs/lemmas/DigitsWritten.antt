-- Digits that are written from the last on, and what the parts of a cell say of the whole.
use Rattle.std.proofs.Common.{◌≡◌, ℕ, suc, ◌+◌, ◌-◌, ◌/◌, ◌%◌, ◌<◌, ◌≤◌, true, false, true≢false, inl, inr, replicate, List, []}
use Rattle.std.proofs.Common.{◌∷◌, ◌++◌, length, take, drop, set, get_or, sym, ap, ◌∙◌, subst, append_assoc, arith}
use Rattle.std.specs.Prelude.{◌↔◌, ◌⊎◌, IsTrue}
use Rattle.std.proofs.lemmas.List.{drop-set, length-set, take-append-drop, drop-drop}
use Rattle.cwr_fields.specs.declared.cell_types.CellType.TheVariants as types
use Rattle.cwr_fields.specs.Format.Bytes.{digits, number_of, are_digits, is_spaces}
use Rattle.cwr_fields.specs.Format.Cells.{Allows, SpellsTime}
use Rattle.cwr_fields.proofs.lemmas.Blanks.{spaces}
use Rattle.cwr_fields.proofs.lemmas.Spellings.{are_digits-append, are_digits-split, digits-number_of, part_spelled, parts_joined}
use Rattle.cwr_fields.proofs.lemmas.Spellings.{same_parts, share_spelled}

-- one more digit in front
in_front : (at rest : ℕ) (tail all : List ℕ) → digits (suc at) rest ++ tail ≡ all
    → digits at (rest / 10) ++ (48 + rest % 10) ∷ tail ≡ all
unfolding digits
in_front at rest tail all h = sym (append_assoc (digits at (rest / 10)) ((48 + rest % 10) ∷ []) tail) ∙ h

-- a digit is written before those that were
pub digit_written : (cell : List ℕ) (at rest number : ℕ) → 1 ≤ at → at ≤ length cell
    → digits at rest ++ drop at cell ≡ digits (length cell) number
    → digits (at - 1) (rest / 10) ++ drop (at - 1) (set cell (at - 1) (48 + rest % 10))
    ≡ digits (length (set cell (at - 1) (48 + rest % 10))) number
digit_written cell at rest number some within h =
    let before : suc (at - 1) ≡ at = omega arith in
    let after : (at - 1) + 1 ≡ at = omega arith in
    let there : at - 1 < length cell = omega arith in
    let rows : drop (at - 1) (set cell (at - 1) (48 + rest % 10)) ≡ (48 + rest % 10) ∷ drop at cell =
    drop-set cell (at - 1) (48 + rest % 10) there ∙ ap (λ k. (48 + rest % 10) ∷ drop k cell) after in
    let old : digits (suc (at - 1)) rest ++ drop at cell ≡ digits (length cell) number =
    ap (λ k. digits k rest ++ drop at cell) before ∙ h in
    ap (λ l. digits (at - 1) (rest / 10) ++ l) rows
    ∙ in_front (at - 1) rest (drop at cell) (digits (length cell) number) old
    ∙ ap (λ w. digits w number) (sym (length-set cell (at - 1) (48 + rest % 10)))

-- digits are those of their three parts
pub three_parts : (first : ℕ) (cell : List ℕ) → IsTrue (are_digits cell)
    ↔ (IsTrue (are_digits (take first cell)) × IsTrue (are_digits (take 2 (drop first cell)))
    × IsTrue (are_digits (drop (first + 2) cell)))
three_parts first cell =
    let back : drop 2 (drop first cell) ≡ drop (first + 2) cell = drop-drop 2 first cell in (
      λ h. let whole = are_digits-split first cell h in
          let rest = are_digits-split 2 (drop first cell) whole.1 in
          (whole.0, rest.0, subst (λ l. are_digits l ≡ true) back rest.1),
      λ p. let last : are_digits (drop 2 (drop first cell)) ≡ true = subst (λ l. are_digits l ≡ true) (sym back) p.2 in
          let rest =
          subst (λ l. are_digits l ≡ true) (take-append-drop 2 (drop first cell))
          (are_digits-append (take 2 (drop first cell)) (drop 2 (drop first cell)) p.1 last) in
          subst (λ l. are_digits l ≡ true) (take-append-drop first cell)
          (are_digits-append (take first cell) (drop first cell) p.0 rest),
    )

-- once the first digit is written, the whole number is
pub all_written : (cell old : List ℕ) (at rest number : ℕ) → at ≡ 0 → length cell ≡ length old
    → digits at rest ++ drop at cell ≡ digits (length cell) number → cell ≡ digits (length old) number
unfolding digits
all_written cell old at rest number none same h =
    let whole : digits 0 rest ++ drop 0 cell ≡ digits (length cell) number =
    subst (λ k. digits k rest ++ drop k cell ≡ digits (length cell) number) none h in
    whole ∙ ap (λ w. digits w number) same

-- the numbers in the three parts of digits, written again, are those digits
pub three_back : (first : ℕ) (cell : List ℕ) → length cell ≡ first + 4 → are_digits cell ≡ true
    → digits first (number_of (take first cell)) ++ digits 2 (number_of (take 2 (drop first cell)))
    ++ digits 2 (number_of (take 2 (drop (first + 2) cell))) ≡ cell
three_back first cell wide h =
    sym (same_parts _ _ _ _ _ _ cell
    (part_spelled 0 first cell (omega arith) h).0
    (part_spelled first 2 cell (omega arith) h).0
    (part_spelled (first + 2) 2 cell (omega arith) h).0
    (parts_joined first 2 2 cell (omega arith)))

-- digits, written again from their number in the same width
pub number_back : (width : ℕ) (cell : List ℕ) → length cell ≡ width → are_digits cell ≡ true
    → digits width (number_of cell) ≡ cell
number_back width cell wide h = subst (λ (w : ℕ). digits w (number_of cell) ≡ cell) wide (digits-number_of cell h)

-- a cell that isn't blank is a share where it is digits, of which the whole is the most
pub share_or : (cell : List ℕ) → length cell ≡ 5 → is_spaces cell ≡ false → Allows types.Share cell
    ↔ ((are_digits cell ≡ true) × (number_of cell ≤ 10000))
share_or cell wide filled = let s = share_spelled cell wide in (not_blank_share cell filled s.0, λ d. inr (s.1 d))
  where
    not_blank_share : {P Q : Type 0} (cell : List ℕ) → is_spaces cell ≡ false → (P → Q) → (cell ≡ replicate 5 32) ⊎ P → Q
    not_blank_share cell filled f (inl e) = absurd (true≢false (sym (spaces 5 cell e) ∙ filled))
    not_blank_share cell filled f (inr p) = f p

-- a cell that isn't blank is a duration where it spells one
pub duration_or : (cell : List ℕ) → is_spaces cell ≡ false → Allows types.OptDuration cell ↔ SpellsTime 100 cell
duration_or cell filled = (not_blank cell filled, λ s. inr s)
  where
    not_blank : {P : Type 0} (cell : List ℕ) → is_spaces cell ≡ false → (cell ≡ replicate 6 32) ⊎ P → P
    not_blank cell filled (inl e) = absurd (true≢false (sym (spaces 6 cell e) ∙ filled))
    not_blank cell filled (inr p) = p

-- a text of one byte
pub one_byte : (cell : List ℕ) (b : ℕ) → length cell ≡ 1 → get_or cell 0 0 ≡ b → cell ≡ b ∷ []
one_byte [] b h e = absurd (omega (arith, h))
one_byte (x ∷ []) b h e = ap (λ (y : ℕ). y ∷ []) e
one_byte (x ∷ y ∷ cell) b h e = absurd (omega (arith, h))
