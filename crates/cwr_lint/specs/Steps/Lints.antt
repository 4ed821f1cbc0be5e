-- What a whole lint has written and taken.
use Rattle.std.specs.Prelude.{◌≡◌, ◌⊎◌, ℕ, ◌+◌, ◌-◌, ◌^◌, ◌≤◌, Bool, true, false, IsFalse, List, [], ◌∷◌, ◌++◌, length, map}
use Rattle.std.specs.Prelude.{Option, IfSome, IfErr, IsSomeAnd, Result, Ok, Err}
use Rattle.std.specs.List.{AllByRecursion, AllZip, list_any}
use Rattle.std.specs.Io.KnownBytes.{Appends, Consumes, IsAtEnd}
use Rattle.cwr_devices.specs.Format.Failures.{one_more_failure}
use Rattle.cwr_shape.specs.declared.limits.Limits.{Limits}
use Rattle.cwr_judge.specs.declared.refusals.Refusal.{Refusal}
use Rattle.cwr_values.specs.declared.items.Item.{Item}
use Rattle.cwr_decode.specs.declared.readings.LastRead.{LastRead}
use Rattle.cwr_decode.specs.declared.readings.ReadFault.TheVariants as read_faults
use Rattle.cwr_lines.specs.Format.Lines.{IsLineOf, is_lf}
use Rattle.cwr_lines.specs.Format.Records.{RecordValue, IsRecord}
use Rattle.cwr_shape.specs.Steps.Tallies.{TallyValue, IsTallyOf}
use Rattle.cwr_values.specs.Format.Begins.{rows_so_far}
use Rattle.cwr_values.specs.Format.Values.{symbol_of}
use Rattle.cwr_tools.specs.Format.Verdicts.{IsAnswerAfter}
use Rattle.cwr_tools.specs.Format.Watching.{findings_with}
use Rattle.cwr_tools.specs.declared.verdicts.Verdict.{Verdict}
use Rattle.cwr_tools.specs.declared.verdicts.Verdict.TheVariants.{Good, Refused, Truncated}
use Rattle.cwr_tools.specs.declared.verdicts.ToolFault.{ToolFault}
use Rattle.cwr_tools.specs.declared.verdicts.ToolFault.TheVariants.{Writer}
use Rattle.cwr_advise.specs.Format.AdviceLines.{said_in}
use Rattle.cwr_advise.specs.Steps.AdviceCounts.{counts_of}
use Rattle.cwr_tools.specs.Steps.LastSteps.{Saying}
use Rattle.cwr_tools.specs.Steps.Reports.{Reports}
use Rattle.cwr_tools.specs.Steps.Verdicts.{StopsAfter}
use Rattle.cwr_lint_lines.specs.Steps.Fronts.{state_at}
use Rattle.cwr_advice.specs.declared.said.Said.{Said}
use Rattle.cwr_lint.specs.Format.FaultsOfLines.{Asking}
use Rattle.cwr_lint.specs.Format.Wanted.{Wanted, advice_when, asking_for, asking_so, lines_linted, lines_up_to, said_when}
use Rattle.cwr_lint.specs.Steps.CutShort.{IsCutText, IsToldUpTo, IsUnread, TellsAfterUpTo, UnlessWriter}
use Rattle.cwr_lint.specs.Steps.LinesRead.{IsTextOf}
use Rattle.cwr_lint.specs.Steps.Runs.{AreWords, EndsAtTrl, TellsAfter}
use Rattle.cwr_lint.specs.Steps.Walks.{IsTold, begins_at}

-- What is known where a check has ended after these items: what the header says, where advice is wanted, how many findings there are, and
-- how much advice of each rule.
abbrev pub HasBegun : Bool → Option Said → ℕ → List ℕ → List Item → Type 0
HasBegun advised said found advice given =
    (said ≡ said_when advised (said_in given)) × (found ≡ findings_with 0 given)
    × (advice ≡ counts_of (advice_when advised given))

-- These bytes were read: the text of lines, of which this one is refused, and those follow it. The lines before it are those of records, which
-- the tally counts.
pub record AreLinesRead (refusal : Refusal) (tally : TallyValue) (last : Bool) (bytes : List ℕ) (refused : List ℕ)
    (lines : List (List ℕ)) : Type 0 where
  pub front : List (List ℕ)
  pub records : List RecordValue
  pub in_order : AllByRecursion IsRecord records
  pub rows : AllZip IsLineOf (rows_so_far records) front
  pub counted : IsTallyOf tally (map symbol_of records)
  pub number : refusal.rec ≡ length front + 1
  pub no_lf : AllByRecursion (λ line. IsFalse (list_any is_lf line)) (refused ∷ lines)
  pub text : IsTextOf last bytes (front ++ refused ∷ lines)

-- What is told up to a fault of a device or of memory: of the line that is refused, from what was counted of the records before, and of
-- lines after it, with advice and after the findings by what was heard before the same stop. Where the text's bytes are known these are its first lines.
pub record TellsUpToFault (wanted : Wanted) (limits : Limits) (before left : Option (List ℕ)) (refusal : Refusal) (text : List ℕ)
    : Type 0 where
  pub refused : List ℕ
  pub lines : List (List ℕ)
  pub last : Bool
  pub tally : TallyValue
  pub heard : List Item
  pub heard_before : StopsAfter limits (read_faults.Refused refusal) before left heard
  pub told : IsToldUpTo (asking_for wanted (said_in heard))
      (begins_at (state_at tally.stage tally.counts (refusal.rec - 1)) (findings_with 0 heard)
      (counts_of (advice_when wanted.advised heard))) refusal refused lines text
  pub read : IfSome before (λ known. (bytes : List ℕ) × (now : Option (List ℕ)) × Consumes before now bytes
      × AreLinesRead refusal tally last bytes refused lines)

-- The words after a check where a fault follows: none after a fault of the check. After a refusal what is told up to the fault, or nothing,
-- where the reader fails in the refused line or right behind it; where the fault is the writer's, the first bytes of such words. After an end that comes too early,
-- where words on it are asked for, some of those where the fault is the writer's, and else none.
abbrev pub AreWordsUpTo : Wanted → Limits → Option (List ℕ) → Option (List ℕ) → Result Verdict ToolFault → ToolFault → List ℕ
    → Type 0
AreWordsUpTo wanted limits before left (Ok (Refused refusal)) fault words =
    IsCutText (λ text. IsUnread fault text ⊎ TellsUpToFault wanted limits before left refusal text) fault words
AreWordsUpTo wanted limits before left (Ok (Truncated records)) fault words =
    (wanted.explained ≡ true) × UnlessWriter fault (words ≡ [])
AreWordsUpTo wanted limits before left (Ok verdict) fault words = ⊥
AreWordsUpTo wanted limits before left (Err other) fault words = words ≡ []

-- First a check is made, and what it writes is written, but no line of a refusal: with all that is said of a check of these bytes. Then
-- words follow it; after a fault of the check there are none, and before a later fault those that are told up to it. More bytes may be
-- taken from the reader.
pub record Lints {W : Type 0} (wanted : Wanted) (limits : Limits) (before after : Option (List ℕ))
    (contents : W → Option (List ℕ)) (old new : W) (result : Result Verdict ToolFault) : Type 0 where
  pub between : W
  pub left : Option (List ℕ)
  pub checked : Result Verdict ToolFault
  pub reported : Reports (lines_up_to wanted) limits before left contents old between checked
  pub words : List ℕ
  pub written : Appends (contents between) (contents new) words
  pub more : List ℕ
  pub taken : Consumes left after more
  pub answered : IsAnswerAfter checked result
  pub leaves : IfErr result (λ fault. AreWordsUpTo wanted limits before left checked fault words)

-- The text was refused so, after these items, and their lines were written and then what is told of the line that is refused and of those after
-- it, from what was counted of the records before, and with advice and the count of findings by what was heard before the same stop. Where the text's bytes are known these are its lines, up to a TRL or to its end.
pub record TellsFaults {W : Type 0} (wanted : Wanted) (limits : Limits) (before after : Option (List ℕ))
    (contents : W → Option (List ℕ)) (old new : W) (refusal : Refusal) : Type 0 where
  pub given : List Item
  pub left : Option (List ℕ)
  pub stopped : StopsAfter limits (read_faults.Refused refusal) before left given
  pub more : List ℕ
  pub taken : Consumes left after more
  pub refused : List ℕ
  pub lines : List (List ℕ)
  pub over : Bool
  pub text : List ℕ
  pub last : Bool
  pub tally : TallyValue
  pub heard : List Item
  pub heard_before : StopsAfter limits (read_faults.Refused refusal) before left heard
  pub told : IsTold (asking_for wanted (said_in heard))
      (begins_at (state_at tally.stage tally.counts (refusal.rec - 1)) (findings_with 0 heard)
      (counts_of (advice_when wanted.advised heard))) refusal refused lines over text
  pub written : Appends (contents old) (contents new) ((lines_linted wanted).lines given ++ text)
  pub read : IfSome before
      (λ known. (bytes : List ℕ) × Consumes before after bytes × AreLinesRead refusal tally last bytes refused lines)
  pub cut : last ≡ false → IfSome before (λ known. IsAtEnd after ⊎ (2 ^ 64 - 1 ≤ length known))
  pub ends : over ≡ true → EndsAtTrl (refused ∷ lines)
  pub all : over ≡ false → IfSome before (λ known. IsAtEnd after ⊎ (2 ^ 64 - 1 ≤ length known))

-- What a check writes is written, and then words on the end that comes too early, where they are asked for.
pub record TellsEnd {W : Type 0} (wanted : Wanted) (limits : Limits) (before after : Option (List ℕ))
    (contents : W → Option (List ℕ)) (old new : W) (records : ℕ) : Type 0 where
  pub between : W
  pub reported : Reports (lines_linted wanted) limits before after contents old between (Ok (Truncated records))
  pub words : List ℕ
  pub asked : AreWords wanted.explained words
  pub written : Appends (contents between) (contents new) words

-- Of a text that is refused the faults are told, and the refusal first. Of one that ends too early and of a whole one what a check writes is
-- written: the findings of the items, and the line of the verdict. Words follow the line of an end that comes too early, and nothing else.
abbrev pub Tells : {W : Type 0} → Wanted → Limits → Option (List ℕ) → Option (List ℕ) → (W → Option (List ℕ)) → W → W → Verdict
    → Type 0
Tells wanted limits before after contents old new (Refused refusal) =
    TellsFaults wanted limits before after contents old new refusal
Tells wanted limits before after contents old new (Truncated records) =
    TellsEnd wanted limits before after contents old new records
Tells wanted limits before after contents old new verdict =
    Reports (lines_linted wanted) limits before after contents old new (Ok verdict)

-- some words were added, and before a fault none, unless that is the writer's
abbrev pub AddsEnd : {W : Type 0} → (W → Option (List ℕ)) → W → W → Result Verdict ToolFault → Type 0
AddsEnd contents old new result = (words : List ℕ) × Appends (contents old) (contents new) words
    × IfErr result (λ fault. UnlessWriter fault (words ≡ []))

-- what is told of the line that is refused and of those after it, or up to a fault
abbrev pub TellsOn : Asking → LastRead → ℕ → List ℕ → Refusal → Option (List ℕ) → Option (List ℕ) → Result Verdict ToolFault → List ℕ
    → Type 0
TellsOn asking last found advice refusal left after (Ok verdict) words = TellsAfter asking last found advice refusal left after words
TellsOn asking last found advice refusal left after (Err fault) words =
    IsCutText (λ text. IsUnread fault text ⊎ TellsAfterUpTo asking last found advice refusal left text) fault words

-- What follows the verdict of a check that told so many findings and so much advice of each rule. After a transmission nothing does. Words on
-- an end that comes too early do where they are asked for, and nothing more is taken. After a refusal the faults are told.
abbrev pub SaysFollows : Asking → ℕ → List ℕ → Saying
SaysFollows asking found advice (Good groups transactions records) last left after result words =
    (result ≡ Ok (Good groups transactions records)) × (after ≡ left) × (words ≡ [])
SaysFollows asking found advice (Truncated records) last left after result words =
    (after ≡ left) × AreWords asking.explained words
    × IfErr result (λ fault. (asking.explained ≡ true) × UnlessWriter fault (words ≡ []))
SaysFollows asking found advice (Refused refusal) last left after result words =
    IsSomeAnd last (λ it. TellsOn asking it found advice refusal left after result words)

-- the same, where the check begins so
abbrev pub SaysFaults : (Option Said → ℕ → List ℕ → Type 0) → Bool → Bool → Saying
SaysFaults begins explained all verdict last left after result words =
    (said : Option Said) × (found : ℕ) × (advice : List ℕ) × begins said found advice
    × SaysFollows (asking_so explained said all) found advice verdict last left after result words

-- the fault, where so many bytes were written in all
abbrev pub counted : ℕ → ToolFault → ToolFault
counted count (Writer written) = Writer count
counted count fault = fault

-- A run that goes on after a check with that verdict, and has written so many bytes in all, ends so: its fault is answered, and nothing more
-- is done; or else the writer hands on what it has, and the verdict is answered, or the fault of the writer, which then counts one more failure.
abbrev pub EndsRun : Verdict → ℕ → Result (Unit {0}) ToolFault → ℕ → ℕ → Result Verdict ToolFault → Type 0
EndsRun found count (Err fault) old new result = (result ≡ Err (counted count fault)) × (new ≡ old)
EndsRun found count (Ok u) old new (Ok verdict) = (verdict ≡ found) × (new ≡ old)
EndsRun found count (Ok u) old new (Err (Writer written)) = (new ≡ one_more_failure old) × (written ≡ count)
EndsRun found count (Ok u) old new (Err fault) = ⊥
