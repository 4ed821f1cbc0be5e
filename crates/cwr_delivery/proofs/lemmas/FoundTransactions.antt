-- The transactions that are found in transmissions, with a transmission more.
use Rattle.std.proofs.Common.{◌≡◌, ℕ, zero, suc, ◌+◌, ◌≤◌, List, [], ◌∷◌, ◌++◌, length, take, Option, Some, None, refl, sym, ap, ◌∙◌, arith, append_assoc, append-nil}
use Rattle.std.specs.Prelude.{slice_get}
use Rattle.std.specs.List.{enumerate_from, flat_map}
use Rattle.std.proofs.lemmas.Option.{slice_get_within}
use Rattle.cwr_findings.proofs.lemmas.OneMore.{take_more}
use Rattle.cwr_lines.specs.Format.Records.{RecordValue}
use Rattle.cwr_sent.specs.declared.facts.SentFacts.{SentFacts}
use Rattle.cwr_sent.specs.Format.SentFacts.{SentContent}
use Rattle.cwr_delivery.specs.Format.Answering.{found_by, outcome_with, placed}
use Rattle.cwr_delivery.specs.Steps.Outcomes.{few_of, few_with_found, outcome_few}

abbrev pub found_from : (SentContent → Option SentFacts) → ℕ → List SentContent → List (ℕ × SentFacts)
found_from g k xs = flat_map (λ p. placed p.0 (g p.1)) (enumerate_from k xs)

one_more : (g : SentContent → Option SentFacts) (k : ℕ) (xs : List SentContent) (x : SentContent)
    → found_from g k (xs ++ x ∷ []) ≡ found_from g k xs ++ placed (k + length xs) (g x)
one_more g k [] x =
    append-nil (placed k (g x)) ∙ ap (λ (n : ℕ). placed n (g x)) (let e : k ≡ k + 0 = omega arith in e)
one_more g k (y ∷ xs) x =
    ap (λ (l : List (ℕ × SentFacts)). placed k (g y) ++ l) (one_more g (k + 1) xs x)
    ∙ sym (append_assoc (placed k (g y)) (found_from g (k + 1) xs) (placed (k + 1 + length xs) (g x)))
    ∙ ap (λ (n : ℕ). (placed k (g y) ++ found_from g (k + 1) xs) ++ placed n (g x))
    (let e : k + 1 + length xs ≡ k + suc (length xs) = omega arith in e)

few_more : (ys : List (ℕ × SentFacts)) (i : ℕ) (o : Option SentFacts) → few_of (ys ++ placed i o) ≡ few_with_found (few_of ys) i o
few_more ys i None = ap few_of (append-nil ys)
few_more [] i (Some f) = refl
few_more (p ∷ []) i (Some f) = refl
few_more (p ∷ q ∷ ys) i (Some f) = refl

length_taken : (xs : List SentContent) (i : ℕ) → i ≤ length xs → length (take i xs) ≡ i
length_taken xs zero h = refl
length_taken [] (suc i) h = absurd (omega (arith, h))
length_taken (x ∷ xs) (suc i) h = ap suc (length_taken xs i (omega (arith, h)))

pub found_more : (g : SentContent → Option SentFacts) (xs : List SentContent) (i : ℕ) (x : SentContent)
    → slice_get xs i ≡ Some x
    → few_of (found_by g (take (i + 1) xs)) ≡ few_with_found (few_of (found_by g (take i xs))) i (g x)
found_more g xs i x there =
    let within = slice_get_within xs i x there in
    ap (λ (l : List SentContent). few_of (found_by g l)) (take_more xs i x there)
    ∙ ap few_of (one_more g 0 (take i xs) x) ∙ few_more (found_by g (take i xs)) (0 + length (take i xs)) (g x)
    ∙ ap (λ (n : ℕ). few_with_found (few_of (found_by g (take i xs))) n (g x))
    (let n = length_taken xs i (omega (arith, within)) in let e : 0 + length (take i xs) ≡ i = omega (arith, n) in e)

pub outcome_same : (xs ys : List (ℕ × SentFacts)) (a : RecordValue) → outcome_few (few_of xs) (few_of ys) a ≡ outcome_with xs ys a
outcome_same [] [] a = refl
outcome_same [] (q ∷ []) a = refl
outcome_same [] (q ∷ r ∷ ys) a = refl
outcome_same (p ∷ []) ys a = refl
outcome_same (p ∷ q ∷ xs) ys a = refl
