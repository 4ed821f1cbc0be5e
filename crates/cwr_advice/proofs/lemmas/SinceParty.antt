-- What passes among the first records after the last of another kind, looked for from the last one back.
use Rattle.std.proofs.Common.{◌≡◌, ℕ, ◌+◌, ◌-◌, ◌≤◌, Bool, true, false, not, cond, List, [], ◌∷◌, ◌++◌, length, take, drop, refl}
use Rattle.std.proofs.Common.{sym, ap, ◌∙◌, arith}
use Rattle.std.specs.Prelude.{Some, slice_get, ◌||◌, ◌&&◌}
use Rattle.std.specs.List.{after_last, list_any, prefix_len, suffix_len}
use Rattle.std.proofs.lemmas.Bool.{and_parts}
use Rattle.std.proofs.lemmas.List.{drop-append-le, drop_all, length-append, reverse-append, take_all}
use Rattle.std.proofs.lemmas.List.Folds.{list_any-append}
use Rattle.cwr_lines.specs.Format.Records.{RecordValue}
use Rattle.cwr_findings.specs.Format.Findings.{is_blank}
use Rattle.cwr_findings.proofs.lemmas.OneMore.{take_more}
use Rattle.cwr_findings.proofs.lemmas.RuleTests.{or_none}
use Rattle.cwr_advice.specs.Format.Rules.{has_few_territories, is_compared, is_territory}

-- what stands after the last that passes, with one element more
after_last-snoc : {X : Type 0} (p : X → Bool) (xs : List X) (x : X)
    → after_last p (xs ++ x ∷ []) ≡ cond (p x) [] (after_last p xs ++ x ∷ [])
after_last-snoc {X = X} p xs x = by (p x) refl
  where
    others : X → Bool
    others y = not (p y)

    count : suffix_len others (xs ++ x ∷ []) ≡ cond (others x) (1 + suffix_len others xs) 0
    count = ap (prefix_len others) (reverse-append xs (x ∷ []))

    by : (b : Bool) → p x ≡ b → after_last p (xs ++ x ∷ []) ≡ cond b [] (after_last p xs ++ x ∷ [])
    by true e =
        let none : suffix_len others (xs ++ x ∷ []) ≡ 0 =
        count ∙ ap (λ (b : Bool). cond (not b) (1 + suffix_len others xs) 0) e in
        let all : length (xs ++ x ∷ []) - suffix_len others (xs ++ x ∷ []) ≡ length (xs ++ x ∷ []) = omega (arith, none) in
        ap (λ (n : ℕ). drop n (xs ++ x ∷ [])) all ∙ drop_all (length (xs ++ x ∷ [])) (xs ++ x ∷ []) (omega arith)
    by false e =
        let one : suffix_len others (xs ++ x ∷ []) ≡ 1 + suffix_len others xs =
        count ∙ ap (λ (b : Bool). cond (not b) (1 + suffix_len others xs) 0) e in
        let same : length (xs ++ x ∷ []) - suffix_len others (xs ++ x ∷ []) ≡ length xs - suffix_len others xs =
        omega (arith, one, length-append xs (x ∷ [])) in
        ap (λ (n : ℕ). drop n (xs ++ x ∷ [])) same ∙ drop-append-le (length xs - suffix_len others xs) xs (x ∷ []) (omega arith)

-- some of the first n pass, after the last of the other kind among these
abbrev pub since : {X : Type 0} → (X → Bool) → (X → Bool) → List X → ℕ → Bool
since p other t n = list_any p (after_last other (take n t))

-- one more of which it is known whether it is of the other kind, and whether it passes
pub one_since : {X : Type 0} (p other : X → Bool) (xs : List X) (x : X) (b c : Bool) → other x ≡ b → p x ≡ c
    → list_any p (after_last other (xs ++ x ∷ [])) ≡ cond b false (list_any p (after_last other xs) || c)
one_since {X} p other xs x true c e f =
    ap (list_any p) (after_last-snoc other xs x ∙ ap (λ (b : Bool). cond b [] (after_last other xs ++ x ∷ [])) e)
one_since {X} p other xs x false c e f =
    ap (list_any p) (after_last-snoc other xs x ∙ ap (λ (b : Bool). cond b [] (after_last other xs ++ x ∷ [])) e)
    ∙ list_any-append p (after_last other xs) (x ∷ [])
    ∙ ap (λ (b : Bool). list_any p (after_last other xs) || b) (or_none (p x) ∙ f)

since_more : {X : Type 0} (p other : X → Bool) (t : List X) (i k : ℕ) (x : X) (b c : Bool) → i + 1 ≡ k → slice_get t i ≡ Some x
    → other x ≡ b → p x ≡ c → since p other t k ≡ cond b false (since p other t i || c)
since_more p other t i k x b c next e f h =
    ap (λ (n : ℕ). since p other t n) (sym next) ∙ ap (λ (l : List _). list_any p (after_last other l)) (take_more t i x e)
    ∙ one_since p other (take i t) x b c f h

or_true : (a : Bool) → (a || true) ≡ true
or_true true = refl
or_true false = refl

-- the last one is of the other kind
pub since_other : {X : Type 0} (p other : X → Bool) (t : List X) (i k : ℕ) (x : X) → i + 1 ≡ k → slice_get t i ≡ Some x
    → other x ≡ true → since p other t k ≡ false
since_other p other t i k x next e f = since_more p other t i k x true (p x) next e f refl

-- it passes
pub since_here : {X : Type 0} (p other : X → Bool) (t : List X) (i k : ℕ) (x : X) → i + 1 ≡ k → slice_get t i ≡ Some x
    → other x ≡ false → p x ≡ true → since p other t k ≡ true
since_here p other t i k x next e f h = since_more p other t i k x false true next e f h ∙ or_true (since p other t i)

-- or neither
pub since_before : {X : Type 0} (p other : X → Bool) (t : List X) (i k : ℕ) (x : X) → i + 1 ≡ k → slice_get t i ≡ Some x
    → other x ≡ false → p x ≡ false → since p other t k ≡ since p other t i
since_before p other t i k x next e f h = since_more p other t i k x false false next e f h ∙ or_none (since p other t i)

-- behind the end nothing more stands
pub same_first : {X : Type 0} (t : List X) (i k : ℕ) → length t ≤ i → i ≤ k → take k t ≡ take i t
same_first t i k end more = take_all k t (omega (arith, end, more)) ∙ sym (take_all i t end)

pub since_none : {X : Type 0} (p other : X → Bool) (t : List X) (n : ℕ) → n ≤ 0 → since p other t n ≡ false
since_none p other t n h = let none : n ≡ 0 = omega (arith, h) in ap (λ (m : ℕ). since p other t m) none ∙ start t
  where
    start : (t : List _) → since p other t 0 ≡ false
    start [] = refl
    start (x ∷ t) = refl

-- what is compared is a territory
pub compared_territory : (t : List RecordValue) (r : RecordValue) → is_compared t r ≡ true → is_territory r ≡ true
compared_territory t r h =
    (and_parts (has_few_territories t) (is_territory r)
    (and_parts (has_few_territories t && is_territory r) (not (is_blank "tis code" r)) h).0).1
