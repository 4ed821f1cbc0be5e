-- What passes of a list, element by element.
use Rattle.std.proofs.Common.{◌≡◌, ℕ, zero, suc, ◌+◌, ◌<◌, ◌≤◌, Bool, true, false, cond, List, [], ◌∷◌, ◌++◌, length, map, take}
use Rattle.std.proofs.Common.{get_or, refl, sym, ap, ◌∙◌, arith, append_assoc}
use Rattle.std.specs.Prelude.{OnErr, Ok, Err, Result, filter}
use Rattle.std.proofs.lemmas.List.{append-nil, map-append, take_all}
use Rattle.std.proofs.lemmas.List.Elements.{filter_more}

-- what is made of those that pass
abbrev pub kept : {A B : Type 0} → (A → Bool) → (A → B) → List A → List B
kept p f xs = map f (filter p xs)

-- with one more that passes
pub kept_more : {A B : Type 0} → (p : A → Bool) (f : A → B) (xs : List A) (i : ℕ) (d : A) (old found : List B) → i < length xs
    → p (get_or xs i d) ≡ true
    → found ≡ old ++ kept p f (take i xs) → found ++ f (get_or xs i d) ∷ [] ≡ old ++ kept p f (take (i + 1) xs)
kept_more {A} {B} p f xs i d old found below pass h =
    ap (λ (l : List B). l ++ f (get_or xs i d) ∷ []) h
    ∙ append_assoc old (kept p f (take i xs)) (f (get_or xs i d) ∷ [])
    ∙ ap (λ (l : List B). old ++ l) (sym
    (ap (map f) (filter_more p xs i d below ∙ ap (λ (b : Bool). filter p (take i xs) ++ cond b (get_or xs i d ∷ []) []) pass)
    ∙ map-append f (filter p (take i xs)) (get_or xs i d ∷ [])))

-- with one more that doesn't
pub kept_same : {A B : Type 0} → (p : A → Bool) (f : A → B) (xs : List A) (i : ℕ) (d : A) (old found : List B) → i < length xs
    → p (get_or xs i d) ≡ false
    → found ≡ old ++ kept p f (take i xs) → found ≡ old ++ kept p f (take (i + 1) xs)
kept_same {A} {B} p f xs i d old found below fail h =
    h ∙ ap (λ (l : List B). old ++ l) (sym (ap (map f) (filter_more p xs i d below
    ∙ ap (λ (b : Bool). filter p (take i xs) ++ cond b (get_or xs i d ∷ []) []) fail ∙ append-nil (filter p (take i xs)))))

pub kept_all : {A B : Type 0} → (p : A → Bool) (f : A → B) (xs : List A) (i : ℕ) → length xs ≤ i
    → kept p f (take i xs) ≡ kept p f xs
kept_all p f xs i end = ap (kept p f) (take_all i xs end)

-- ---- one that is there

kept_in_front : {A : Type 0} → (b : Bool) (x : A) (rest : List A) → b ≡ true → cond b (x ∷ rest) rest ≡ [] → ⊥
kept_in_front true x rest e none = absurd (cc none)
kept_in_front false x rest e none = absurd (cc e)

none_behind : {A : Type 0} → (b : Bool) (x : A) (rest : List A) → cond b (x ∷ rest) rest ≡ [] → rest ≡ []
none_behind true x rest none = absurd (cc none)
none_behind false x rest none = none

some_passes : {A : Type 0} → (p : A → Bool) (l : List A) (i : ℕ) (d : A) → i < length l → p (get_or l i d) ≡ true
    → filter p l ≡ [] → ⊥
some_passes p [] i d h e none = absurd (omega (arith, h))
some_passes p (x ∷ l) zero d h e none = kept_in_front (p x) x (filter p l) e none
some_passes p (x ∷ l) (suc i) d h e none = some_passes p l i d (omega (arith, h)) e (none_behind (p x) x (filter p l) none)

none_mapped : {A B : Type 0} → (f : A → B) (l : List A) → map f l ≡ [] → l ≡ []
none_mapped f [] e = refl
none_mapped f (x ∷ l) e = absurd (cc e)

pub some_kept : {A B : Type 0} → (p : A → Bool) (f : A → B) (xs : List A) (i : ℕ) (d : A) → i < length xs
    → p (get_or xs i d) ≡ true → kept p f xs ≡ [] → ⊥
some_kept p f xs i d below pass none = some_passes p xs i d below pass (none_mapped f (filter p xs) none)

pub on_err : {T E : Type 0} → (r : Result T E) (P : Type 0) → P → OnErr r P
on_err (Ok x) P h = tt
on_err (Err e) P h = h
