-- The advice on a transaction, record by record.
use Rattle.std.proofs.Common.{◌≡◌, ℕ, zero, suc, ◌+◌, ◌≤◌, Bool, true, false, cond, List, [], ◌∷◌, ◌++◌, length, take, refl, sym}
use Rattle.std.proofs.Common.{ap, ◌∙◌, arith}
use Rattle.std.specs.Prelude.{Some, slice_get, flat_map}
use Rattle.std.specs.List.{enumerate_from}
use Rattle.std.proofs.lemmas.List.{append-nil, take_all}
use Rattle.std.proofs.lemmas.List.Concat.{flat_map-append}
use Rattle.std.proofs.lemmas.List.FromFn.{length-enumerate_from}
use Rattle.cwr_lines.specs.Format.Records.{RecordValue}
use Rattle.cwr_findings.proofs.lemmas.OneMore.{take_more}
use Rattle.cwr_advice.specs.declared.rules.Advice.{Advice}
use Rattle.cwr_advice.specs.declared.said.Said.{Said}
use Rattle.cwr_advice.specs.Format.Rules.{advice_at, advice_of, is_acknowledgement}

-- the advice at the first k records
abbrev pub advice_before : Said → List RecordValue → ℕ → List Advice
advice_before said t k = flat_map (λ p. advice_at said t p.0 p.1) (take k (enumerate_from 0 t))

numbered : (n : ℕ) (t : List RecordValue) (k : ℕ) (r : RecordValue) → slice_get t k ≡ Some r
    → slice_get (enumerate_from n t) k ≡ Some (n + k, r)
numbered n [] k r e = absurd (cc e)
numbered n (x ∷ t) zero r e = let same : x ≡ r = cc e in let here : n ≡ n + 0 = omega arith in cc (same, here)
numbered n (x ∷ t) (suc k) r e =
    let further : (n + 1) + k ≡ n + suc k = omega arith in numbered (n + 1) t k r e ∙ ap (λ (m : ℕ). Some (m, r)) further

numbered_first : (t : List RecordValue) (k : ℕ) (r : RecordValue) → slice_get t k ≡ Some r
    → slice_get (enumerate_from 0 t) k ≡ Some (k, r)
numbered_first t k r e = let first : 0 + k ≡ k = omega arith in numbered 0 t k r e ∙ ap (λ (m : ℕ). Some (m, r)) first

pub advice_more : (said : Said) (t : List RecordValue) (k : ℕ) (r : RecordValue) → slice_get t k ≡ Some r
    → advice_before said t k ++ advice_at said t k r ≡ advice_before said t (k + 1)
advice_more said t k r e =
    ap (λ (l : List Advice). advice_before said t k ++ l) (sym (append-nil (advice_at said t k r)))
    ∙ sym (ap (flat_map (λ (p : ℕ × RecordValue). advice_at said t p.0 p.1))
    (take_more (enumerate_from 0 t) k (k, r) (numbered_first t k r e))
    ∙ flat_map-append (λ p. advice_at said t p.0 p.1) (take k (enumerate_from 0 t)) ((k, r) ∷ []))

-- no acknowledgement
of_all : (said : Said) (t : List RecordValue) (b : Bool) → is_acknowledgement t ≡ b → b ≡ false
    → flat_map (λ p. advice_at said t p.0 p.1) (enumerate_from 0 t) ≡ advice_of said t
unfolding advice_of
of_all said t b e f =
    sym (ap (λ (a : Bool). cond a [] (flat_map (λ (p : ℕ × RecordValue). advice_at said t p.0 p.1) (enumerate_from 0 t))) (e ∙ f))

pub advice_whole : (said : Said) (t : List RecordValue) (k : ℕ) → is_acknowledgement t ≡ false → length t ≤ k
    → advice_before said t k ≡ advice_of said t
advice_whole said t k other h =
    ap (flat_map (λ (p : ℕ × RecordValue). advice_at said t p.0 p.1))
    (take_all k (enumerate_from 0 t) (omega (arith, length-enumerate_from 0 t, h))) ∙ of_all said t (is_acknowledgement t)
    refl other

-- an acknowledgement
pub none_on : (said : Said) (t : List RecordValue) → is_acknowledgement t ≡ true → [] ≡ advice_of said t
unfolding advice_of
none_on said t e =
    sym (ap (λ (a : Bool). cond a [] (flat_map (λ (p : ℕ × RecordValue). advice_at said t p.0 p.1) (enumerate_from 0 t))) e)

front_none : {A : Type 0} → (xs ys : List A) → xs ++ ys ≡ [] → xs ≡ []
front_none [] ys e = refl
front_none (x ∷ xs) ys e = absurd (cc e)

rest_none : {A : Type 0} → (xs ys : List A) → xs ++ ys ≡ [] → ys ≡ []
rest_none [] ys e = e
rest_none (x ∷ xs) ys e = absurd (cc e)

some_in : {X A : Type 0} → (f : X → List A) (l : List X) (i : ℕ) (x : X) → slice_get l i ≡ Some x → (f x ≡ [] → ⊥)
    → flat_map f l ≡ [] → ⊥
some_in f [] i x e some none = absurd (cc e)
some_in {X} f (y ∷ l) zero x e some none =
    let same : y ≡ x = cc e in some (ap f (sym same) ∙ front_none (f y) (flat_map f l) none)
some_in f (y ∷ l) (suc i) x e some none = some_in f l i x e some (rest_none (f y) (flat_map f l) none)

-- advice at one record is advice on the transaction
pub some_advice : (said : Said) (t : List RecordValue) (k : ℕ) (r : RecordValue) → is_acknowledgement t ≡ false
    → slice_get t k ≡ Some r → (advice_at said t k r ≡ [] → ⊥) → advice_of said t ≡ [] → ⊥
some_advice said t k r other e some none =
    some_in (λ (p : ℕ × RecordValue). advice_at said t p.0 p.1) (enumerate_from 0 t) k (k, r) (numbered_first t k r e) some
    (of_all said t (is_acknowledgement t) refl other ∙ none)
