-- What is told of a text that is explained, what is found after its verdict, and which faults words after that have.
use Rattle.std.specs.Prelude.{◌≡◌, ℕ, List, [], ◌++◌, drop, Option, Some, IfSome, IsSomeAnd, Result, Ok, Err}
use Rattle.std.specs.Io.KnownBytes.{Appends, Consumes}
use Rattle.cwr_devices.specs.Format.Failures.{one_more_failure}
use Rattle.cwr_shape.specs.declared.limits.Limits.{Limits}
use Rattle.cwr_values.specs.Format.Values.{TransmissionValue}
use Rattle.cwr_judge.specs.Format.Ends.{IsAccepted}
use Rattle.cwr_tools.specs.declared.verdicts.Verdict.{Verdict}
use Rattle.cwr_tools.specs.declared.verdicts.ToolFault.{ToolFault}
use Rattle.cwr_tools.specs.declared.verdicts.ToolFault.TheVariants.{Reader, Writer, Memory}
use Rattle.cwr_tools.specs.Format.Reports.{ReportsText, lines_of_explained}
use Rattle.cwr_tools.specs.Format.Verdicts.{IsAnswerAfter}
use Rattle.cwr_causes.specs.declared.trailing.Trailing.{Trailing}
use Rattle.cwr_causes.specs.Format.Trailing.{IsTrailing}
use Rattle.cwr_causes.specs.Format.TrailingTexts.{trailing_words}

-- where the text is accepted, the words are those on what stands after its transmission
abbrev pub SaysAfter : Limits → List ℕ → Option (List ℕ) → Option (List ℕ) → List ℕ → Type 0
SaysAfter limits name before after words =
    IfSome before (λ text. (v : TransmissionValue) (n : ℕ) → IsAccepted limits text v n
    → (found : Trailing) × IsTrailing (Some (drop n text)) after found × (words ≡ trailing_words name found))

-- words after a verdict: all that are to be said, or where the writer failed the first bytes of such, and else none
abbrev pub AreWordsOf : (List ℕ → Type 0) → Result Verdict ToolFault → List ℕ → Type 0
AreWordsOf Says (Ok verdict) words = Says words
AreWordsOf Says (Err (Writer written)) words = (rest : List ℕ) × Says (words ++ rest)
AreWordsOf Says (Err fault) words = words ≡ []

-- the same after a check; after a fault of it there are none
abbrev pub AreWordsAfter : (Verdict → List ℕ → Type 0) → Result Verdict ToolFault → Result Verdict ToolFault → List ℕ → Type 0
AreWordsAfter Says (Ok verdict) result words = AreWordsOf (Says verdict) result words
AreWordsAfter Says (Err fault) result words = words ≡ []

-- Where the bytes that are read are known, a check tells of them what it tells of a text, with lines under each finding. Then words
-- follow, after a transmission those on what stands there, or where the writer failed the first of them; after another fault there
-- are none. More bytes may be taken from the reader.
pub record ExplainsText {W : Type 0} (limits : Limits) (name : List ℕ) (before after : Option (List ℕ)) (contents : W → Option (List ℕ))
    (old new : W) (result : Result Verdict ToolFault) : Type 0 where
  pub between : W
  pub left : Option (List ℕ)
  pub checked : Result Verdict ToolFault
  pub told : ReportsText lines_of_explained limits before left contents old between checked
  pub words : List ℕ
  pub written : Appends (contents between) (contents new) words
  pub more : List ℕ
  pub taken : Consumes left after more
  pub answered : IsAnswerAfter checked result
  pub says : AreWordsAfter (λ verdict. SaysAfter limits name before after) checked result words

-- where the text is accepted, what stands after its transmission was found
abbrev pub FindsAfter : Limits → Option (List ℕ) → Option (List ℕ) → Option Trailing → Type 0
FindsAfter limits before after found =
    IfSome before (λ text. (v : TransmissionValue) (n : ℕ) → IsAccepted limits text v n
    → IsSomeAnd found (IsTrailing (Some (drop n text)) after))

-- a writer's failures count one more where its fault is answered, and else they stay; no other fault is answered
abbrev pub WritesOnly : Result (Unit {0}) ToolFault → ℕ → ℕ → Type 0
WritesOnly (Ok u) old new = new ≡ old
WritesOnly (Err (Writer written)) old new = new ≡ one_more_failure old
WritesOnly (Err fault) old new = ⊥

-- so do a reader's, where memory may be refused too
abbrev pub ReadsOnly : {A : Type 0} → Result A ToolFault → ℕ → ℕ → Type 0
ReadsOnly (Ok x) old new = new ≡ old
ReadsOnly (Err Reader) old new = new ≡ one_more_failure old
ReadsOnly (Err Memory) old new = new ≡ old
ReadsOnly (Err fault) old new = ⊥
