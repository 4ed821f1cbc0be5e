-- What is accepted is one transmission, and its canonical text is accepted whatever follows.
use Rattle.std.proofs.Common.{◌≡◌, ℕ, ◌<◌, ◌≤◌, min, Bool, true, false, cond, List, [], ◌∷◌, ◌++◌, length, refl, sym, ap, ◌∙◌}
use Rattle.std.proofs.Common.{append_assoc, append-nil, arith, inl, inr}
use Rattle.std.specs.Prelude.{◌⊎◌}
use Rattle.std.proofs.lemmas.List.{length-append}
use Rattle.cwr_lines.specs.Format.Lines.{closed}
use Rattle.cwr_shape.specs.declared.limits.Limits.{Limits}
use Rattle.cwr_values.specs.Format.Values.{TransmissionValue, IsTransmission, FitsIn}
use Rattle.cwr_values.specs.Format.Rows.{canonical_text}
use Rattle.cwr_values.proofs.lemmas.Spelling.{canonical_spells}
use Rattle.cwr_values.proofs.lemmas.OneSpelling.{spelled_once}
use Rattle.cwr_judge.specs.Format.Places.{IsFirstBad}
use Rattle.cwr_judge.specs.Format.Ends.{IsAccepted}

pub accepted_once : (limits : Limits) (text : List ℕ) (v w : TransmissionValue) (m n : ℕ) → IsAccepted limits text v m
    → IsAccepted limits text w n → (v ≡ w) × (m ≡ n)
accepted_once limits text v w m n h k =
    let same = spelled_once v w h.front k.front h.rest k.rest h.whole k.whole h.spelled k.spelled (sym h.split ∙ k.split) in
    (same.0, h.taken ∙ ap (λ (f : List ℕ). min (length f) (length text)) same.1 ∙ sym k.taken)

chosen : (b : Bool) (text : List ℕ) → (rest : List ℕ) × (cond b text (text ++ 10 ∷ []) ≡ text ++ rest)
chosen true text = ([], sym (append-nil text))
chosen false text = (10 ∷ [], refl)

pub closed_begins : (text : List ℕ) → (rest : List ℕ) × (closed text ≡ text ++ rest)
closed_begins text = chosen _ text

pub canonical_accepted : (limits : Limits) (v : TransmissionValue) (more : List ℕ) → IsTransmission v → FitsIn limits v
    → IsAccepted limits (canonical_text v ++ more) v (length (canonical_text v))
canonical_accepted limits v more h k =
    let c = closed_begins (canonical_text v ++ more) in
    record {
      whole = h;
      within = k;
      front = canonical_text v;
      rest = more ++ c.0;
      split = c.1 ∙ append_assoc (canonical_text v) more c.0;
      spelled = canonical_spells v h;
      taken = omega (arith, length-append (canonical_text v) more);
    }

-- a text is bad first at one place
pub one_place : (limits : Limits) (text : List ℕ) (i j k l : ℕ) → IsFirstBad limits text i k → IsFirstBad limits text j l
    → (i ≡ j) × (k ≡ l)
one_place limits text i j k l h g = both (h.1 j l g.0) (g.1 i k h.0)
  where
    both : (i < j) ⊎ ((i ≡ j) × (k ≤ l)) → (j < i) ⊎ ((j ≡ i) × (l ≤ k)) → (i ≡ j) × (k ≡ l)
    both (inl a) (inl b) = absurd (omega arith)
    both (inl a) (inr b) = absurd (omega arith)
    both (inr a) (inl b) = absurd (omega arith)
    both (inr a) (inr b) = (a.0, omega arith)
