-- Things that are numbered, with one more.
use Rattle.std.proofs.Common.{◌≡◌, ℕ, zero, suc, ◌+◌, ◌≤◌, List, [], ◌∷◌, ◌++◌, length, take, fold, Some, None, sym, ap, ap₂, ◌∙◌, append-nil, append_assoc, arith}
use Rattle.std.specs.Prelude.{slice_get}
use Rattle.std.specs.List.{enumerate_from, flat_map}
use Rattle.std.proofs.lemmas.Grind.{flat_map-append, fold-append}

pub enumerate-more : {A : Type 0} (k : ℕ) (xs : List A) (i : ℕ) (x : A) → Some x ≡ slice_get xs i
    → enumerate_from k (take (suc i) xs) ≡ enumerate_from k (take i xs) ++ (k + i, x) ∷ []
enumerate-more k [] i x e = absurd (cc e)
enumerate-more {A = A} k (y ∷ xs) zero x e =
    let same : y ≡ x = cc e in
    ap₂ (λ (n : ℕ) (z : A). (n, z) ∷ []) (omega arith) same
enumerate-more {A = A} k (y ∷ xs) (suc i) x e =
    ap (λ (l : List (ℕ × A)). (k, y) ∷ l)
    (enumerate-more (k + 1) xs i x e
    ∙ ap (λ (n : ℕ). enumerate_from (k + 1) (take i xs) ++ (n, x) ∷ []) (omega arith))

suc_is : (i : ℕ) → i + 1 ≡ suc i
suc_is i = omega arith

pub fold-more : {A B : Type 0} (h : B → ℕ × A → B) (b : B) (xs : List A) (i : ℕ) (x : A) → Some x ≡ slice_get xs i
    → fold h b (enumerate_from 0 (take (i + 1) xs)) ≡ h (fold h b (enumerate_from 0 (take i xs))) (i, x)
fold-more {A = A} h b xs i x e =
    ap (λ (n : ℕ). fold h b (enumerate_from 0 (take n xs))) (suc_is i)
    ∙ ap (fold h b) (enumerate-more 0 xs i x e)
    ∙ fold-append h b (enumerate_from 0 (take i xs)) ((0 + i, x) ∷ [])
    ∙ ap (λ (n : ℕ). h (fold h b (enumerate_from 0 (take i xs))) (n, x)) (omega arith)

-- the same of things without numbers
take-more : {A : Type 0} (xs : List A) (i : ℕ) (x : A) → Some x ≡ slice_get xs i → take (suc i) xs ≡ take i xs ++ x ∷ []
take-more [] i x e = absurd (cc e)
take-more {A = A} (y ∷ xs) zero x e = let same : y ≡ x = cc e in ap (λ (z : A). z ∷ []) same
take-more {A = A} (y ∷ xs) (suc i) x e = ap (λ (l : List A). y ∷ l) (take-more xs i x e)

pub fold_take : {A B : Type 0} (h : B → A → B) (b : B) (xs : List A) (i : ℕ) (x : A) → Some x ≡ slice_get xs i
    → fold h b (take (i + 1) xs) ≡ h (fold h b (take i xs)) x
fold_take {A = A} h b xs i x e =
    ap (λ (n : ℕ). fold h b (take n xs)) (suc_is i) ∙ ap (fold h b) (take-more xs i x e)
    ∙ fold-append h b (take i xs) (x ∷ [])

-- and where each has a list
pub flat_more : {A B : Type 0} (f : ℕ × A → List B) (k : ℕ) (xs : List A) (i n : ℕ) (x : A) → Some x ≡ slice_get xs i → k + i ≡ n
    → flat_map f (enumerate_from k (take (i + 1) xs)) ≡ flat_map f (enumerate_from k (take i xs)) ++ f (n, x)
flat_more {A = A} {B = B} f k xs i n x e is =
    ap (λ (m : ℕ). flat_map f (enumerate_from k (take m xs))) (suc_is i)
    ∙ ap (λ (l : List (ℕ × A)). flat_map f l) (enumerate-more k xs i x e)
    ∙ flat_map-append f (enumerate_from k (take i xs)) ((k + i, x) ∷ [])
    ∙ ap (λ (l : List B). flat_map f (enumerate_from k (take i xs)) ++ l) (append-nil (f (k + i, x)))
    ∙ ap (λ (m : ℕ). flat_map f (enumerate_from k (take i xs)) ++ f (m, x)) is

pub flat_take : {A B : Type 0} (f : A → List B) (xs : List A) (i : ℕ) (x : A) → Some x ≡ slice_get xs i
    → flat_map f (take (i + 1) xs) ≡ flat_map f (take i xs) ++ f x
flat_take {A = A} {B = B} f xs i x e =
    ap (λ (n : ℕ). flat_map f (take n xs)) (suc_is i) ∙ ap (λ (l : List A). flat_map f l) (take-more xs i x e)
    ∙ flat_map-append f (take i xs) (x ∷ [])
    ∙ ap (λ (l : List B). flat_map f (take i xs) ++ l) (append-nil (f x))

-- what is added after what was added before
pub added_on : {B : Type 0} (start mid new front more back : List B) → mid ≡ start ++ front → new ≡ mid ++ more
    → back ≡ front ++ more → new ≡ start ++ back
added_on {B = B} start mid new front more back before after is =
    after ∙ ap (λ (l : List B). l ++ more) before ∙ append_assoc start front more ∙ ap (λ (l : List B). start ++ l) (sym is)

-- where nothing is read any more, the list was walked whole
pub none_past : {X : Type 0} (xs : List X) (i : ℕ) → slice_get xs i ≡ None → length xs ≤ i
none_past [] i h = omega arith
none_past (x ∷ xs) zero h = absurd (cc h)
none_past (x ∷ xs) (suc i) h = let r = none_past xs i h in omega (arith, r)
