-- What the steps of a lint tell, and what they count.
use Rattle.std.specs.Prelude.{◌≡◌, ◌⊎◌, ℕ, ◌+◌, ◌-◌, ◌^◌, ◌≤◌, min, Bool, true, false, IsFalse, List, [], ◌∷◌, ◌++◌, length}
use Rattle.std.specs.Prelude.{Option, Some, IfSome}
use Rattle.std.specs.List.{AllByRecursion, list_any}
use Rattle.std.specs.Option.{is_some}
use Rattle.std.specs.Io.KnownBytes.{Consumes, IsAtEnd}
use Rattle.cwr_lines.specs.Format.Lines.{is_lf, line_kind}
use Rattle.cwr_lines.specs.Steps.Held.{HeldLine}
use Rattle.cwr_fields.specs.declared.kinds.Kind.TheVariants.{Trl}
use Rattle.cwr_judge.specs.declared.refusals.Refusal.{Refusal}
use Rattle.cwr_advice.specs.declared.rules.Advice.{Advice}
use Rattle.cwr_advise.specs.Steps.AdviceCounts.{summary_by}
use Rattle.cwr_findings.specs.Format.ReportLines.{faults_line}
use Rattle.cwr_lint.specs.declared.linting.LintRun.{LintRun}
use Rattle.cwr_lint.specs.declared.puts.Asked.{Asked}
use Rattle.cwr_lint.specs.declared.raw_lines.RawLine.{RawLine}
use Rattle.cwr_lint_lines.specs.declared.judged_lines.Judged.{Judged}
use Rattle.cwr_lint_lines.specs.Format.FaultsAtFields.{JudgedLine, LineCut, cut_of, one_more_line}
use Rattle.cwr_lint.specs.Format.FaultsOfLines.{Asking, EndedTransaction, IsFaultText, Tells, TellsLine, count_after}
use Rattle.cwr_lint.specs.Format.Told.{truncated_unless}
use Rattle.cwr_lint.specs.Steps.Walks.{IsTold, Walk, WalksLine, WalksLines, begins_at, ended_by, judged_in, told_ended}
use Rattle.cwr_lint_lines.specs.Steps.Cells.{held_cut}
use Rattle.cwr_lint.specs.Steps.LinesRead.{GoesOn, HoldsRaw, IsAllRead, IsOfLine, ReadsLast, ReadsLine, held_raw}
use Rattle.cwr_decode.specs.declared.last_bytes.LastBytes.{LastBytes}
use Rattle.cwr_decode.specs.declared.readings.LastRead.{LastRead}
use Rattle.cwr_lint_lines.specs.Steps.Fronts.{state_at}

-- what is asked for
abbrev pub asking_of : Asked → Asking
asking_of asked = record { explained = is_some asked.name; said = asked.said; all = asked.all }

-- words are put only where they are asked for
abbrev pub AreWords : Bool → List ℕ → Type 0
AreWords explained text = explained ≡ false → text ≡ []

-- so many faults were told at the fields of a line
abbrev pub TellsSoMany : Asking → JudgedLine → ℕ → ℕ → ℕ → List ℕ → Type 0
TellsSoMany asked l from upto count text = (told : List Refusal) × Tells asked l from upto told text × (count ≡ length told)

-- so many faults were told of a line, and before them the findings of the transaction that it ends, and that advice on it
abbrev pub TellsOfLine : Asking → JudgedLine → Option EndedTransaction → List Advice → ℕ → ℕ → List ℕ → Type 0
TellsOfLine asked judged ended advice from count text =
    (told : List Refusal) × TellsLine asked judged ended advice from told text × (count ≡ length told)

-- so it is told of a line that was judged before which the lint holds that
abbrev pub TellsJudged : Asking → LintRun → HeldLine → Judged → ℕ → ℕ → List ℕ → Type 0
TellsJudged asked run line judged from =
    TellsOfLine asked (judged_in run.state line judged) (ended_by judged run.state run.begun)
    (told_ended asked run.advice (ended_by judged run.state run.begun)) from

-- what a run holds between two lines
abbrev pub walk_of : LintRun → Walk
walk_of run = record { state = run.state; begun = run.begun; findings = run.findings; advice = run.advice }

-- more faults were counted; the count stays at the largest number of 64 bits
abbrev pub more_faults : ℕ → ℕ → ℕ
more_faults n more = min (n + more) (2 ^ 64 - 1)

-- what is wrong with one line was told and counted; only a TRL ends a transmission
pub record TakesLine (asked : Asking) (cut : LineCut) (from : ℕ) (old new : LintRun) (text : List ℕ) : Type 0 where
  pub told : List Refusal
  pub walks : WalksLine asked (walk_of old) cut from told text (walk_of new)
  pub lines : new.state.lines ≡ one_more_line old.state.lines
  pub faults : new.faults ≡ more_faults old.faults (length told)
  pub over : new.state.over ≡ true → cut.kind ≡ Some Trl

-- the same of a line that was read, where there is always one
abbrev pub TakesRead : Asking → LineCut → LintRun → LintRun → Bool → List ℕ → Type 0
TakesRead asked cut old new true text = TakesLine asked cut 1 old new text
TakesRead asked cut old new false text = ⊥

-- a line was read after another one that has ended, and what is wrong with it was told
pub record TakesNext (asked : Asking) (left after : Option (List ℕ)) (before raw : RawLine) (old new : LintRun)
    (text : List ℕ) : Type 0 where
  pub on : old.state.over ≡ false
  pub goes : before.ended ≡ true
  pub read : ReadsLine left after raw
  pub takes : TakesLine asked (cut_of read.line) 1 old new text

-- no line was read: the transmission or the input is over
pub record TakesNone (left after : Option (List ℕ)) (before : RawLine) (old new : LintRun) (text : List ℕ) : Type 0 where
  pub nothing : text ≡ []
  pub same : new ≡ old
  pub kept : Consumes left after []
  pub why : (old.state.over ≡ true) ⊎ (before.ended ≡ false) ⊎ IfSome left (λ known. IsAtEnd after)

-- one of both
abbrev pub TakesNextIf : Asking → RawLine → RawLine → LintRun → LintRun → Option (List ℕ) → Option (List ℕ) → Bool → List ℕ
    → Type 0
TakesNextIf asked before raw old new left after true text = TakesNext asked left after before raw old new text
TakesNextIf asked before raw old new left after false text = TakesNone left after before old new text

-- the last of the lines is a TRL, or there is none
abbrev pub EndsAtTrl : List (List ℕ) → Type 0
EndsAtTrl lines = (front : List (List ℕ)) × (line : List ℕ) × (lines ≡ front ++ line ∷ []) × (line_kind line ≡ Some Trl)

-- Lines were read after one that has ended or not, and what is wrong with each was told and counted. The last one ended so.
pub record TakesLines (asked : Asking) (left after : Option (List ℕ)) (ended last : Bool) (old new : LintRun)
    (text : List ℕ) : Type 0 where
  pub bytes : List ℕ
  pub taken : Consumes left after bytes
  pub lines : List (List ℕ)
  pub goes : GoesOn ended bytes lines last
  pub no_lf : AllByRecursion (λ line. IsFalse (list_any is_lf line)) lines
  pub told : List Refusal
  pub walks : WalksLines asked (walk_of old) lines told text (walk_of new)
  pub counted : new.state.lines ≡ count_after old.state.lines lines
  pub faults : old.faults ≤ 2 ^ 64 - 1 → new.faults ≡ more_faults old.faults (length told)
  pub over : new.state.over ≡ true → ((lines ≡ []) × (old.state.over ≡ true)) ⊎ EndsAtTrl lines

-- up to the end
pub record TakesAll (asked : Asking) (ended : Bool) (old new : LintRun) (left after : Option (List ℕ)) (text : List ℕ) : Type 0
  where
    pub last : Bool
    pub takes : TakesLines asked left after ended last old new text
    pub cut : last ≡ false → (ended ≡ false) ⊎ IsAllRead left after takes.bytes
    pub all : new.state.over ≡ false → (ended ≡ false) ⊎ IsAllRead left after takes.bytes

-- The line of the refusal, and what else is wrong with the line that is refused.
pub record TakesFirst (asked : Asking) (refusal : Refusal) (cut : LineCut) (old new : LintRun) (text : List ℕ) : Type 0 where
  pub line : List ℕ
  pub first : IsFaultText asked refusal line
  pub beside : List ℕ
  pub takes : TakesLine asked cut (min (refusal.field + 1) (2 ^ 8 - 1)) old new beside
  pub whole : text ≡ line ++ beside

-- and of the lines after it
pub record TakesFrom (asked : Asking) (refusal : Refusal) (raw : RawLine) (old new : LintRun) (left after : Option (List ℕ))
    (text : List ℕ) : Type 0 where
  pub between : LintRun
  pub beside : List ℕ
  pub first : TakesFirst asked refusal (held_cut (held_raw raw)) old between beside
  pub later : List ℕ
  pub rest : TakesAll asked raw.ended between new left after later
  pub whole : text ≡ beside ++ later

-- the first fault is counted, and the lines before its own
pub record BeginsAt (refusal : Refusal) (run : LintRun) : Type 0 where
  pub lines : run.state.lines ≡ refusal.rec - 1
  pub faults : run.faults ≡ 1
  pub over : run.state.over ≡ false

-- All that is told, of the line that is held as it was refused, where that was held, and of those after it.
pub record TellsToEnd (asked : Asking) (begins : Walk) (refusal : Refusal) (raw : RawLine) (left after : Option (List ℕ))
    (text : List ℕ) : Type 0 where
  pub bytes : List ℕ
  pub taken : Consumes left after bytes
  pub lines : List (List ℕ)
  pub last : Bool
  pub goes : GoesOn raw.ended bytes lines last
  pub no_lf : AllByRecursion (λ line. IsFalse (list_any is_lf line)) lines
  pub cut : last ≡ false → (raw.ended ≡ false) ⊎ IsAllRead left after bytes
  pub over : Bool
  pub told : (refused : List ℕ) → HoldsRaw refused raw → IsTold asked begins refusal refused lines over text
  pub ends : over ≡ true → (refused : List ℕ) → HoldsRaw refused raw → EndsAtTrl (refused ∷ lines)
  pub all : over ≡ false → (raw.ended ≡ false) ⊎ IsAllRead left after bytes

-- the line that was refused is the one that was read last
pub record TellsRun (asked : Asking) (begins : Walk) (refusal : Refusal) (last : LastBytes) (left after : Option (List ℕ))
    (text : List ℕ) : Type 0 where
  pub between : Option (List ℕ)
  pub raw : RawLine
  pub held : IsOfLine raw
  pub read : ReadsLast left between last raw
  pub tells : TellsToEnd asked begins refusal raw between after text

-- how it ended, and how many faults there are, in how many lines
abbrev pub sums_text : Bool → ℕ → ℕ → ℕ → List ℕ
sums_text over faults findings n = truncated_unless over n ++ faults_line faults findings n

-- how much of the advice isn't told, and then that
abbrev pub IsEndText : Bool → List ℕ → Bool → ℕ → ℕ → ℕ → List ℕ → Type 0
IsEndText all advice over faults findings n text = text ≡ summary_by all advice ++ sums_text over faults findings n

-- so it is told from where the records had come before the refused line, of which the last bytes are held, and after so many findings and so
-- much advice of each rule
abbrev pub TellsAfter : Asking → LastRead → ℕ → List ℕ → Refusal → Option (List ℕ) → Option (List ℕ) → List ℕ → Type 0
TellsAfter asked last found advice refusal left after text =
    TellsRun asked (begins_at (state_at last.stage last.counts (refusal.rec - 1)) found advice) refusal last.bytes left after text
