-- Cells that are all spaces, and tests that take them too.
use Rattle.std.proofs.Common.{◌≡◌, ℕ, zero, suc, ◌<◌, Bool, true, false, not, ◌&&◌, ◌||◌, ltb, List, [], ◌∷◌, length, replicate}
use Rattle.std.proofs.Common.{refl, sym, ap, ◌∙◌, subst, inl, inr, true≢false, get_or}
use Rattle.std.specs.Prelude.{◌↔◌, ◌⊎◌, ◌==◌, IsTrue}
use Rattle.std.specs.List.{list_all}
use Rattle.std.proofs.lemmas.Bool.{eqb-true, and_parts, lt-ltb}
use Rattle.cwr_fields.specs.Format.Bytes.{is_spaces, is_plain, is_control, has_control}

-- a cell of one byte throughout
replicate_of : (b : ℕ) (cell : List ℕ) → list_all (λ x. x == b) cell ≡ true → cell ≡ replicate (length cell) b
replicate_of b [] h = refl
replicate_of b (x ∷ cell) h =
    let p = and_parts (x == b) (list_all (λ x. x == b) cell) h in
    let here : x ≡ b = eqb-true x b p.0 in
    let there : cell ≡ replicate (length cell) b = replicate_of b cell p.1 in
    ap (λ y. y ∷ cell) here ∙ ap (λ l. b ∷ l) there

all_of : (n : ℕ) → is_spaces (replicate n 32) ≡ true
all_of zero = refl
all_of (suc n) = all_of n

pub blank : (n : ℕ) (cell : List ℕ) → length cell ≡ n → is_spaces cell ≡ true → cell ≡ replicate n 32
blank n cell wide h = subst (λ (w : ℕ). cell ≡ replicate w 32) wide (replicate_of 32 cell h)

pub spaces : (n : ℕ) (cell : List ℕ) → cell ≡ replicate n 32 → is_spaces cell ≡ true
spaces n cell e = ap is_spaces e ∙ all_of n

-- a test that says yes to a blank cell, and to another else by its own test
pub blank_then : {P : Type 0} (n : ℕ) (cell : List ℕ) (s : Bool) → length cell ≡ n → s ≡ is_spaces cell → s ≡ true → IsTrue s
    ↔ ((cell ≡ replicate n 32) ⊎ P)
blank_then n cell s wide same taken = (λ h. inl (blank n cell wide (sym same ∙ taken)), λ p. taken)

not_blank : {P : Type 0} (n : ℕ) (cell : List ℕ) (s b : Bool) → s ≡ is_spaces cell → s ≡ false → (P → IsTrue b)
    → (cell ≡ replicate n 32) ⊎ P → IsTrue b
not_blank n cell s b same refused f (inl e) = absurd (true≢false (sym (spaces n cell e) ∙ sym same ∙ refused))
not_blank n cell s b same refused f (inr p) = f p

pub blank_else : {P : Type 0} (n : ℕ) (cell : List ℕ) (s b : Bool) → s ≡ is_spaces cell → s ≡ false → (IsTrue b ↔ P) → IsTrue b
    ↔ ((cell ≡ replicate n 32) ⊎ P)
blank_else n cell s b same refused t = (λ h. inr (t.0 h), not_blank n cell s b same refused t.1)

-- bytes are plain where none is a control byte
pub plain_unless_control : (cell : List ℕ) → ((k : ℕ) → get_or cell k 0 < 256) → is_plain cell ≡ not (has_control cell)
plain_unless_control [] h = refl
plain_unless_control (b ∷ cell) h =
    let low : ltb b 256 ≡ true = lt-ltb b 256 (h 0) in
    rw low (plain_after (is_control b) (is_plain cell) (has_control cell) (plain_unless_control cell (λ k. h (suc k))))
  where
    plain_after : (c p q : Bool) → p ≡ not q → (not c && p) ≡ not (c || q)
    plain_after true p q e = refl
    plain_after false p q e = e
