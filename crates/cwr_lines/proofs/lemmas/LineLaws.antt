-- A text is cut into lines in one way.
use Rattle.std.proofs.Common.{◌≡◌, ℕ, List, [], ◌∷◌, ◌++◌, refl, sym, ap, ◌∙◌, inl, inr, true≢false, append_assoc, ap₂}
use Rattle.std.specs.Prelude.{◌==◌, ◌⊎◌}
use Rattle.std.specs.List.{AllByRecursion, flat_map}
use Rattle.std.proofs.lemmas.Bool.{or_parts}
use Rattle.cwr_fields.proofs.lemmas.LineFeeds.{NoLf, has_lf}

no_lf_head : (c : ℕ) (rest : List ℕ) → NoLf (c ∷ rest) → c ≡ 10 → ⊥
no_lf_head c rest h e = true≢false (sym (ap (λ (x : ℕ). x == 10) e) ∙ (or_parts (c == 10) (has_lf rest) h).0)

-- what stands before the first line feed
pub first_line : (k l x y : List ℕ) → NoLf k → NoLf l → k ++ 10 ∷ x ≡ l ++ 10 ∷ y → (k ≡ l) × (x ≡ y)
first_line [] [] x y h j e = (refl, cc e)
first_line [] (c ∷ l) x y h j e = absurd (no_lf_head c l j (cc e))
first_line (c ∷ k) [] x y h j e = absurd (no_lf_head c k h (cc e))
first_line (c ∷ k) (d ∷ l) x y h j e =
    let same : c ≡ d = cc e in
    let more = first_line k l x y (or_parts (c == 10) (has_lf k) h).1 (or_parts (d == 10) (has_lf l) j).1 (cc e) in
    (ap₂ (λ (b : ℕ) (bs : List ℕ). b ∷ bs) same more.0, more.1)

abbrev pub lines_text : List (List ℕ) → List ℕ
lines_text lines = flat_map (λ line. line ++ 10 ∷ []) lines

pub text_of-cons : (k : List ℕ) (ks : List (List ℕ)) (x : List ℕ) → lines_text (k ∷ ks) ++ x ≡ k ++ 10 ∷ (lines_text ks ++ x)
text_of-cons k ks x = append_assoc (k ++ 10 ∷ []) (lines_text ks) x ∙ append_assoc k (10 ∷ []) (lines_text ks ++ x)

agree_more : (k l : List ℕ) (ks ls : List (List ℕ)) (x y : List ℕ) → k ≡ l
    → ((more : List (List ℕ)) × (ls ≡ ks ++ more) × (x ≡ lines_text more ++ y))
    ⊎ ((more : List (List ℕ)) × (ks ≡ ls ++ more) × (y ≡ lines_text more ++ x))
    → ((more : List (List ℕ)) × (l ∷ ls ≡ k ∷ ks ++ more) × (x ≡ lines_text more ++ y))
    ⊎ ((more : List (List ℕ)) × (k ∷ ks ≡ l ∷ ls ++ more) × (y ≡ lines_text more ++ x))
agree_more k l ks ls x y e (inl a) = inl (a.0, ap₂ (λ (b : List ℕ) (bs : List (List ℕ)). b ∷ bs) (sym e) a.1, a.2)
agree_more k l ks ls x y e (inr a) = inr (a.0, ap₂ (λ (b : List ℕ) (bs : List (List ℕ)). b ∷ bs) e a.1, a.2)

-- of two lists of lines that begin one text, one begins the other
pub lines_agree : (ks ls : List (List ℕ)) (x y : List ℕ) → AllByRecursion NoLf ks → AllByRecursion NoLf ls
    → lines_text ks ++ x ≡ lines_text ls ++ y
    → ((more : List (List ℕ)) × (ls ≡ ks ++ more) × (x ≡ lines_text more ++ y))
    ⊎ ((more : List (List ℕ)) × (ks ≡ ls ++ more) × (y ≡ lines_text more ++ x))
lines_agree [] ls x y h j e = inl (ls, refl, e)
lines_agree (k ∷ ks) [] x y h j e = inr (k ∷ ks, refl, sym e)
lines_agree (k ∷ ks) (l ∷ ls) x y h j e =
    let first =
    first_line k l (lines_text ks ++ x) (lines_text ls ++ y) h.0 j.0 (sym (text_of-cons k ks x) ∙ e ∙ text_of-cons l ls y) in
    agree_more k l ks ls x y first.0 (lines_agree ks ls x y h.1 j.1 first.1)
