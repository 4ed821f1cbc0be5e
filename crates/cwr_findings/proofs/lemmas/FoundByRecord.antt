-- The findings of a transaction, record by record.
use Rattle.std.proofs.Common.{◌≡◌, ℕ, zero, suc, ◌+◌, ◌≤◌, List, [], ◌∷◌, ◌++◌, length, take, drop, refl, sym, ap, ap₂, ◌∙◌}
use Rattle.std.proofs.Common.{subst, arith}
use Rattle.std.specs.Prelude.{Some, slice_get, flat_map}
use Rattle.std.specs.List.{enumerate_from}
use Rattle.std.proofs.lemmas.List.{append-nil, take_all}
use Rattle.std.proofs.lemmas.List.Concat.{flat_map-append}
use Rattle.std.proofs.lemmas.List.FromFn.{length-enumerate_from}
use Rattle.cwr_lines.specs.Format.Records.{RecordValue}
use Rattle.cwr_findings.specs.declared.rules.Finding.{Finding}
use Rattle.cwr_findings.specs.Format.Findings.{before_copy, findings, findings_after, findings_at}
use Rattle.cwr_findings.proofs.lemmas.OneMore.{take_more}

-- the findings at the first k records
abbrev pub found_before : ℕ → List RecordValue → ℕ → List Finding
found_before n t k = flat_map (λ p. findings_at n t p.0 p.1) (take k (enumerate_from 0 t))

numbered : (n : ℕ) (t : List RecordValue) (k : ℕ) (r : RecordValue) → slice_get t k ≡ Some r
    → slice_get (enumerate_from n t) k ≡ Some (n + k, r)
numbered n [] k r e = absurd (cc e)
numbered n (x ∷ t) zero r e = let same : x ≡ r = cc e in let here : n ≡ n + 0 = omega arith in cc (same, here)
numbered n (x ∷ t) (suc k) r e =
    let further : (n + 1) + k ≡ n + suc k = omega arith in numbered (n + 1) t k r e ∙ ap (λ (m : ℕ). Some (m, r)) further

numbered_first : (t : List RecordValue) (k : ℕ) (r : RecordValue) → slice_get t k ≡ Some r
    → slice_get (enumerate_from 0 t) k ≡ Some (k, r)
numbered_first t k r e = let first : 0 + k ≡ k = omega arith in numbered 0 t k r e ∙ ap (λ (m : ℕ). Some (m, r)) first

pub found_more : (n : ℕ) (t : List RecordValue) (k : ℕ) (r : RecordValue) → slice_get t k ≡ Some r
    → found_before n t k ++ findings_at n t k r ≡ found_before n t (k + 1)
found_more n t k r e =
    ap (λ (l : List Finding). found_before n t k ++ l) (sym (append-nil (findings_at n t k r)))
    ∙ sym (ap (flat_map (λ (p : ℕ × RecordValue). findings_at n t p.0 p.1))
    (take_more (enumerate_from 0 t) k (k, r) (numbered_first t k r e))
    ∙ flat_map-append (λ p. findings_at n t p.0 p.1) (take k (enumerate_from 0 t)) ((k, r) ∷ []))

pub found_at_end : (n : ℕ) (t : List RecordValue) (k : ℕ) → length t ≤ k → found_before n t k ≡ findings_after n t
unfolding findings_after
found_at_end n t k h =
    ap (flat_map (λ (p : ℕ × RecordValue). findings_at n t p.0 p.1))
    (take_all k (enumerate_from 0 t) (omega (arith, length-enumerate_from 0 t)))

front_none : {A : Type 0} → (xs ys : List A) → xs ++ ys ≡ [] → xs ≡ []
front_none [] ys e = refl
front_none (x ∷ xs) ys e = absurd (cc e)

rest_none : {A : Type 0} → (xs ys : List A) → xs ++ ys ≡ [] → ys ≡ []
rest_none [] ys e = e
rest_none (x ∷ xs) ys e = absurd (cc e)

some_in : {X A : Type 0} → (f : X → List A) (l : List X) (i : ℕ) (x : X) → slice_get l i ≡ Some x → (f x ≡ [] → ⊥)
    → flat_map f l ≡ [] → ⊥
some_in f [] i x e some none = absurd (cc e)
some_in {X} f (y ∷ l) zero x e some none =
    let same : y ≡ x = cc e in some (ap f (sym same) ∙ front_none (f y) (flat_map f l) none)
some_in f (y ∷ l) (suc i) x e some none = some_in f l i x e some (rest_none (f y) (flat_map f l) none)

-- a finding at one record is one of the transaction
pub some_finding : (n : ℕ) (t : List RecordValue) (k : ℕ) (r : RecordValue) → slice_get t k ≡ Some r
    → (findings_at n t k r ≡ [] → ⊥) → findings_after n t ≡ [] → ⊥
unfolding findings_after
some_finding n t k r e some none =
    some_in (λ (p : ℕ × RecordValue). findings_at n t p.0 p.1) (enumerate_from 0 t) k (k, r) (numbered_first t k r e) some none

-- ---- of an acknowledgement its copy is judged

of_copy : (t : List RecordValue) (n : ℕ) (copy : List RecordValue) → n ≡ before_copy t → copy ≡ drop (before_copy t) t
    → findings_after n copy ≡ findings t
unfolding findings
of_copy t n copy e f = ap₂ findings_after e f

pub found_whole : (t : List RecordValue) (n : ℕ) (copy : List RecordValue) → n ≡ before_copy t → copy ≡ drop (before_copy t) t
    → (k : ℕ) → length copy ≤ k → found_before n copy k ≡ findings t
found_whole t n copy e f k h = found_at_end n copy k h ∙ of_copy t n copy e f

pub some_whole : (t : List RecordValue) (n : ℕ) (copy : List RecordValue) → n ≡ before_copy t → copy ≡ drop (before_copy t) t
    → (k : ℕ) (r : RecordValue) → slice_get copy k ≡ Some r
    → (findings_at n copy k r ≡ [] → ⊥) → findings t ≡ [] → ⊥
some_whole t n copy e f k r there some none = some_finding n copy k r there some (of_copy t n copy e f ∙ none)

-- ---- nothing is found

none_from : (n : ℕ) (t rest : List RecordValue) (i : ℕ)
    → ((k : ℕ) (r : RecordValue) → slice_get rest k ≡ Some r → findings_at n t (i + k) r ≡ [])
    → flat_map (λ p. findings_at n t p.0 p.1) (enumerate_from i rest) ≡ []
none_from n t [] i h = refl
none_from n t (x ∷ rest) i h =
    let here : i + 0 ≡ i = omega arith in
    let first : findings_at n t i x ≡ [] = subst (λ (m : ℕ). findings_at n t m x ≡ []) here (h 0 x refl) in
    ap₂ (λ (a b : List Finding). a ++ b) first
    (none_from n t rest (i + 1) (λ k r e. let further : i + suc k ≡ (i + 1) + k =
    omega arith in subst (λ (m : ℕ). findings_at n t m r ≡ []) further (h (suc k) r e)))

pub none_at_any : (n : ℕ) (t : List RecordValue)
    → ((k : ℕ) (r : RecordValue) → slice_get t k ≡ Some r → findings_at n t k r ≡ []) → findings_after n t ≡ []
unfolding findings_after
none_at_any n t h =
    none_from n t t 0
    (λ k r e. let same : 0 + k ≡ k = omega arith in subst (λ (m : ℕ). findings_at n t m r ≡ []) (sym same) (h k r e))
