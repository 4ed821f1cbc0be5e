-- What an explained check has written and taken.
use Rattle.std.specs.Prelude.{◌≡◌, ℕ, ◌-◌, ◌^◌, min, Bool, true, false, List, [], ◌++◌, length, Option, None, Some, IsSomeAnd}
use Rattle.std.specs.Prelude.{OnOk, Result, Ok, Err}
use Rattle.std.specs.Io.KnownBytes.{Appends, Consumes}
use Rattle.cwr_decode.specs.declared.readings.LastRead.{LastRead}
use Rattle.cwr_shape.specs.declared.limits.Limits.{Limits}
use Rattle.cwr_tools.specs.declared.verdicts.Verdict.{Verdict}
use Rattle.cwr_tools.specs.declared.verdicts.Verdict.TheVariants.{Good, Refused, Truncated}
use Rattle.cwr_tools.specs.declared.verdicts.ToolFault.{ToolFault}
use Rattle.cwr_tools.specs.declared.verdicts.ToolFault.TheVariants.{Writer}
use Rattle.cwr_tools.specs.Format.Reports.{lines_of_explained}
use Rattle.cwr_tools.specs.Format.Verdicts.{IsAnswerAfter}
use Rattle.cwr_tools.specs.Steps.LastSteps.{Saying}
use Rattle.cwr_tools.specs.Steps.Reports.{Reports}
use Rattle.cwr_tools.specs.Steps.Verdicts.{IsReadLast}
use Rattle.cwr_causes.specs.declared.beyond.Beyond.{Beyond}
use Rattle.cwr_causes.specs.declared.beyond.Beyond.TheVariants.{Unasked}
use Rattle.cwr_causes.specs.declared.lines_at_end.LineAtEnd.{LineAtEnd}
use Rattle.cwr_causes.specs.declared.trailing.Trailing.{Trailing}
use Rattle.cwr_causes.specs.Format.Lookings.{LooksAfterLine}
use Rattle.cwr_causes.specs.Format.NumbersAfter.{FindsAfterLine}
use Rattle.cwr_causes.specs.Format.Trailing.{IsTrailing}
use Rattle.cwr_causes.specs.Format.TrailingTexts.{trailing_words}
use Rattle.cwr_causes.specs.Steps.LinesAtEnd.{IsLineAtEnd}
use Rattle.cwr_causes.specs.Steps.Refused.{ExplainsEnd, ExplainsRefusal}
use Rattle.cwr_causes.specs.Steps.Trailing.{found_in}
use Rattle.cwr_explain.specs.Format.Explained.{AreWordsAfter, AreWordsOf}

-- the verdict is that on a transmission
abbrev pub is_good : Verdict → Bool
is_good (Good groups transactions records) = true
is_good verdict = false

-- What is looked at after a verdict, and what is found there, where the reader had that left before and has this after it: of a
-- transmission all that stands after it, of a refusal what helps with its line. After any other verdict nothing is looked at or taken.
abbrev pub Looks : Verdict → LastRead → Option (List ℕ) → Option (List ℕ) → Beyond → Type 0
Looks (Good groups transactions records) last left after beyond = IsSomeAnd (found_in beyond) (IsTrailing left after)
Looks (Refused refusal) last left after beyond =
    (line : LineAtEnd) × IsLineAtEnd last.bytes line × LooksAfterLine refusal line beyond
    × FindsAfterLine refusal line left after beyond
Looks (Truncated records) last left after beyond = (beyond ≡ Unasked) × (after ≡ left)

-- what is said of what stands after a transmission
abbrev pub words_if_found : List ℕ → Option Trailing → List ℕ
words_if_found name None = []
words_if_found name (Some found) = trailing_words name found

-- What is said of a verdict, by what was read last and by what was looked at after it.
abbrev pub SaysVerdict : Limits → List ℕ → Verdict → LastRead → Beyond → List ℕ → Type 0
SaysVerdict limits name (Good groups transactions records) last beyond words = words ≡ words_if_found name (found_in beyond)
SaysVerdict limits name (Refused refusal) last beyond words = ExplainsRefusal limits name refusal last beyond [] words
SaysVerdict limits name (Truncated records) last beyond words = ExplainsEnd name records last [] words

-- the words say that of the verdict, where this is what was read last, and the reader had that left and has this after the look
abbrev pub ExplainsLast : Limits → List ℕ → Verdict → LastRead → Option (List ℕ) → Option (List ℕ) → List ℕ → Type 0
ExplainsLast limits name verdict last left after words =
    (beyond : Beyond) × Looks verdict last left after beyond × SaysVerdict limits name verdict last beyond words

-- they say that of the verdict on bytes that were read
abbrev pub ExplainsRun : Limits → List ℕ → Option (List ℕ) → Option (List ℕ) → Option (List ℕ) → List ℕ → Verdict → Type 0
ExplainsRun limits name before left after words verdict =
    (last : LastRead) × IsReadLast limits before left verdict last × ExplainsLast limits name verdict last left after words

-- such words were added, or where the writer failed the first bytes of such, and else none
abbrev pub AddsExplanation : {W : Type 0} → (W → Option (List ℕ)) → Limits → List ℕ → Verdict → LastRead → Option (List ℕ)
    → Option (List ℕ) → W → W → Result Verdict ToolFault → Type 0
AddsExplanation contents limits name verdict last left after old new result =
    (words : List ℕ) × Appends (contents old) (contents new) words
    × AreWordsOf (ExplainsLast limits name verdict last left after) result words

-- a text was added, or where the writer failed its first bytes, so many as the fault says
abbrev pub AddsText : {W : Type 0} → (W → Option (List ℕ)) → List ℕ → W → W → Result (Unit {0}) ToolFault → Type 0
AddsText contents text old new (Ok u) = Appends (contents old) (contents new) text
AddsText contents text old new (Err (Writer written)) =
    (bytes : List ℕ) × (rest : List ℕ) × (text ≡ bytes ++ rest) × Appends (contents old) (contents new) bytes
    × (written ≡ min (length bytes) (2 ^ 64 - 1))
AddsText contents text old new (Err fault) = ⊥

-- What is said of what explains a verdict, in which the input has that name: such words are written, by what was read last, or where the
-- writer failed the first bytes of such, and else none. What stands after a transmission was found.
abbrev pub SaysLast : Limits → List ℕ → Option Trailing → Saying
SaysLast limits name found verdict last left after result words =
    IsSomeAnd last (λ it. AreWordsOf (ExplainsLast limits name verdict it left after) result words
    × (is_good verdict ≡ true → OnOk result (IsSomeAnd found (IsTrailing left after))))

-- First a check is made, and what it writes is written: the text on the findings and the verdict, with all that is said of a
-- check of these bytes. Then words follow it, which explain the verdict by what was read last and by what the reader has after it,
-- or where the writer failed the first of them; after another fault there are none. More bytes may be taken from the reader.
pub record Explains {W : Type 0} (limits : Limits) (name : List ℕ) (before after : Option (List ℕ)) (contents : W → Option (List ℕ))
    (old new : W) (result : Result Verdict ToolFault) : Type 0 where
  pub between : W
  pub left : Option (List ℕ)
  pub checked : Result Verdict ToolFault
  pub reported : Reports lines_of_explained limits before left contents old between checked
  pub words : List ℕ
  pub written : Appends (contents between) (contents new) words
  pub more : List ℕ
  pub taken : Consumes left after more
  pub answered : IsAnswerAfter checked result
  pub says : AreWordsAfter (λ verdict said. ExplainsRun limits name before left after said verdict) checked result words
