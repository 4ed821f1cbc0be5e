-- Texts without their trailing spaces.
use Rattle.std.proofs.Common.{◌≡◌, ℕ, suc, ◌+◌, Bool, true, false, cond, List, [], ◌∷◌, ◌++◌, length, replicate, refl, sym, ap}
use Rattle.std.proofs.Common.{◌∙◌, arith}
use Rattle.std.specs.Prelude.{◌==◌}
use Rattle.std.proofs.lemmas.Bool.{eqb-true}
use Rattle.std.proofs.lemmas.List.{length-append, length-replicate}
use Rattle.cwr_fields.specs.Format.Bytes.{trimmed, before_trimmed}

one_more : (b n : ℕ) (rest : List ℕ) (t : Bool) → (b == 32) ≡ t → rest ≡ replicate n 32
    → (m : ℕ) × (b ∷ rest ≡ cond t [] (b ∷ []) ++ replicate m 32)
one_more b n rest true e h = (suc n, ap (λ (x : ℕ). x ∷ rest) (eqb-true b 32 e) ∙ ap (λ (xs : List ℕ). 32 ∷ xs) h)
one_more b n rest false e h = (n, ap (λ (xs : List ℕ). b ∷ xs) h)

before : (b n : ℕ) (rest t : List ℕ) → rest ≡ t ++ replicate n 32 → (m : ℕ) × (b ∷ rest ≡ before_trimmed b t ++ replicate m 32)
before b n rest [] h = one_more b n rest (b == 32) refl h
before b n rest (c ∷ t) h = (n, ap (λ (xs : List ℕ). b ∷ xs) h)

-- a text is what is left without trailing spaces, and spaces
pub spaces_after : (x : List ℕ) → (n : ℕ) × (x ≡ trimmed x ++ replicate n 32)
unfolding trimmed
spaces_after [] = (0, refl)
spaces_after (b ∷ rest) = let r = spaces_after rest in before b r.0 rest (trimmed rest) r.1

-- texts of one length that differ in trailing spaces alone are the same
pub same_from_trimmed : (x y : List ℕ) → length x ≡ length y → trimmed x ≡ trimmed y → x ≡ y
same_from_trimmed x y lengths e =
    let p = spaces_after x in
    let q = spaces_after y in
    let lx : length x ≡ length (trimmed x) + p.0 =
    ap length p.1 ∙ length-append (trimmed x) (replicate p.0 32)
    ∙ ap (λ (n : ℕ). length (trimmed x) + n) (length-replicate p.0 32) in
    let ly : length y ≡ length (trimmed y) + q.0 =
    ap length q.1 ∙ length-append (trimmed y) (replicate q.0 32)
    ∙ ap (λ (n : ℕ). length (trimmed y) + n) (length-replicate q.0 32) in
    let same : p.0 ≡ q.0 = omega (arith, ap length e) in
    p.1 ∙ ap (λ (t : List ℕ). t ++ replicate p.0 32) e ∙ ap (λ (n : ℕ). trimmed y ++ replicate n 32) same ∙ sym q.1

trimmed_nonspace : (c : ℕ) (rest t : List ℕ) → (c == 32) ≡ false → (ys : List ℕ) × (before_trimmed c t ≡ c ∷ ys)
trimmed_nonspace c rest [] h = ([], ap (λ (b : Bool). cond b [] (c ∷ [])) h)
trimmed_nonspace c rest (d ∷ t) h = (d ∷ t, refl)

-- three bytes of which the last is no space stay
pub trimmed_three : (a b c : ℕ) (rest : List ℕ) → (c == 32) ≡ false
    → (ys : List ℕ) × (trimmed (a ∷ b ∷ c ∷ rest) ≡ a ∷ b ∷ c ∷ ys)
unfolding trimmed
trimmed_three a b c rest h =
    let n = trimmed_nonspace c rest (trimmed rest) h in
    (n.0, ap (λ (t : List ℕ). before_trimmed a (before_trimmed b t)) n.1)
