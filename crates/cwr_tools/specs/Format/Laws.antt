-- What the laws say.
use Rattle.std.specs.Prelude.{◌≡◌, ◌⊎◌, ℕ, List, [], ◌∷◌, ◌++◌, take, flat_map}
use Rattle.cwr_shape.specs.declared.limits.Limits.{Limits}
use Rattle.cwr_values.specs.declared.items.Item.{Item}
use Rattle.cwr_values.specs.Format.Values.{TransmissionValue, FitsIn, IsTransmission}
use Rattle.cwr_values.specs.Format.Rows.{canonical_text}
use Rattle.cwr_judge.specs.Format.Ends.{IsAccepted}
use Rattle.cwr_judge.specs.Format.Items.{value_items}
use Rattle.cwr_tools.specs.declared.verdicts.Verdict.{Verdict}
use Rattle.cwr_tools.specs.Format.Texts.{check_text, good_verdict}
use Rattle.cwr_tools.specs.Format.Verdicts.{IsVerdictAfter, IsVerdictOn}
use Rattle.cwr_tools.specs.Format.Reports.{lines_of_explained, text_on}

-- nothing, or lines of which the first begins with two spaces
abbrev pub IsIndented : List ℕ → Type 0
IsIndented notes = (notes ≡ []) ⊎ (take 2 notes ≡ 32 ∷ 32 ∷ [])

-- so is what stands after each of these lines
abbrev pub AreIndented : List (List ℕ × List ℕ) → Type 0
AreIndented [] = Unit {0}
AreIndented (p ∷ parts) = IsIndented p.1 × AreIndented parts

-- The text is the plain one, with indented lines put in after lines of it.
pub record IsNoted (text plain : List ℕ) : Type 0 where
  pub parts : List (List ℕ × List ℕ)
  pub whole : flat_map (λ p. p.0 ++ p.1) parts ≡ text
  pub without : flat_map (λ p. p.0) parts ≡ plain
  pub indented : AreIndented parts

-- what is written of explained findings and a verdict is what a check writes of them, with indented lines put in after lines of it
abbrev pub ExplainedIsNoted : Type 0
ExplainedIsNoted =
    (items : List Item) (verdict : Verdict) → IsNoted (text_on lines_of_explained items verdict) (check_text items verdict)

-- the verdict that is told of a text is that on it
abbrev pub VerdictIsTold : Type 0
VerdictIsTold = (limits : Limits) (text : List ℕ) (verdict : Verdict) (given : List Item)
    → IsVerdictAfter limits text verdict given → IsVerdictOn limits text verdict

-- of a text that is accepted it is its transmission's, after that one's items
abbrev pub AcceptedIsTold : Type 0
AcceptedIsTold = (limits : Limits) (text : List ℕ) (verdict : Verdict) (given : List Item) (v : TransmissionValue) (n : ℕ)
    → IsVerdictAfter limits text verdict given → IsAccepted limits text v n
    → (verdict ≡ good_verdict v) × (given ≡ value_items v)

-- and so it is of the canonical text of a transmission within the limits, whatever follows
abbrev pub CanonicalIsTold : Type 0
CanonicalIsTold = (limits : Limits) (verdict : Verdict) (given : List Item) (v : TransmissionValue) (more : List ℕ)
    → IsTransmission v → FitsIn limits v → IsVerdictAfter limits (canonical_text v ++ more) verdict given
    → (verdict ≡ good_verdict v) × (given ≡ value_items v)
