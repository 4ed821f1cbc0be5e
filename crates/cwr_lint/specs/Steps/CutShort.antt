-- What a lint has told where a device or memory failed.
use Rattle.std.specs.Prelude.{◌≡◌, ◌⊎◌, ℕ, ◌+◌, ◌-◌, ◌^◌, ◌≤◌, min, Bool, true, false, IsFalse, List, [], ◌∷◌, ◌++◌}
use Rattle.std.specs.Prelude.{Option, IfErr, Result, Ok, Err}
use Rattle.std.specs.List.{AllByRecursion, list_any}
use Rattle.std.specs.Io.KnownBytes.{Appends, Consumes}
use Rattle.cwr_lines.specs.Format.Lines.{is_lf}
use Rattle.cwr_judge.specs.declared.refusals.Refusal.{Refusal}
use Rattle.cwr_advice.specs.declared.rules.Advice.{Advice}
use Rattle.cwr_decode.specs.declared.last_bytes.LastBytes.{LastBytes}
use Rattle.cwr_decode.specs.declared.readings.LastRead.{LastRead}
use Rattle.cwr_devices.specs.declared.sinks.Sink.{Sink}
use Rattle.cwr_devices.specs.Steps.Sinks.{HasWritten, has_failed}
use Rattle.cwr_tools.specs.declared.verdicts.Verdict.{Verdict}
use Rattle.cwr_tools.specs.declared.verdicts.ToolFault.{ToolFault}
use Rattle.cwr_tools.specs.declared.verdicts.ToolFault.TheVariants.{Reader, Writer}
use Rattle.cwr_lint_lines.specs.Format.FaultsAtFields.{JudgedLine, LineCut, cut_of, fields_end}
use Rattle.cwr_lint_lines.specs.Steps.Cells.{held_cut}
use Rattle.cwr_lint_lines.specs.Steps.Fronts.{state_at}
use Rattle.cwr_lint.specs.declared.linting.LintRun.{LintRun}
use Rattle.cwr_lint.specs.declared.raw_lines.RawLine.{RawLine}
use Rattle.cwr_lint.specs.Format.FaultsOfLines.{Asking, EndedTransaction, IsFaultText, Tells, ended_lines}
use Rattle.cwr_lint.specs.Steps.LinesRead.{GoesOn, HoldsRaw, IsOfLine, ReadsLast, ReadsLine, held_raw}
use Rattle.cwr_lint.specs.Steps.Puts.{PutsAfter}
use Rattle.cwr_lint.specs.Steps.Runs.{TakesFirst, walk_of}
use Rattle.cwr_lint.specs.Steps.Walks.{IsTold, Walk, WalksLine, WalksLines, begins_at, ended_at, judged_line, told_ended}

-- ---- texts that were put

-- unless the fault is the writer's
abbrev pub UnlessWriter : ToolFault → Type 0 → Type 0
UnlessWriter (Writer written) P = Unit {0}
UnlessWriter fault P = P

-- Whatever text was put so far, that text followed by this one is now put. Where the fault is the writer's, the first bytes of it are
-- written, and else all of it is.
pub record PutsUpTo {W : Type 0} (contents : W → Option (List ℕ)) (text : List ℕ) (fault : ToolFault) (old new : Sink W) : Type 0
  where
    pub written : (start : Option (List ℕ)) (before : List ℕ) → HasWritten contents start before old
        → HasWritten contents start (before ++ text) new
    pub unfailed : has_failed old ≡ false → UnlessWriter fault (has_failed new ≡ false)

-- before a fault such a text was put
abbrev pub Leaves : {W A : Type 0} → (List ℕ → Type 0) → (W → Option (List ℕ)) → Result A ToolFault → Sink W → Sink W → Type 0
Leaves P contents (Ok x) old new = Unit {0}
Leaves P contents (Err fault) old new = (text : List ℕ) × PutsUpTo contents text fault old new × P text

-- the reader failed before any text was put
abbrev pub IsUnread : ToolFault → List ℕ → Type 0
IsUnread Reader text = text ≡ []
IsUnread fault text = ⊥

-- so, or such a text was put before a fault
abbrev pub LeavesOrUnread : {W A : Type 0} → (List ℕ → Type 0) → (W → Option (List ℕ)) → Result A ToolFault → Sink W → Sink W
    → Type 0
LeavesOrUnread P contents (Ok x) old new = Unit {0}
LeavesOrUnread P contents (Err fault) old new =
    (text : List ℕ) × PutsUpTo contents text fault old new × (IsUnread fault text ⊎ P text)

-- some text is put, and before a fault none, unless that is the writer's
abbrev pub PutsEnd : {W : Type 0} → (W → Option (List ℕ)) → (W → ℕ) → Result (Unit {0}) ToolFault → Sink W → Sink W → Type 0
PutsEnd contents failures result old new =
    (text : List ℕ) × PutsAfter contents failures text result old new × IfErr result (λ fault. UnlessWriter fault (text ≡ []))

-- a text, or nothing
abbrev pub IsNoneOr : List ℕ → List ℕ → Type 0
IsNoneOr whole text = (text ≡ []) ⊎ (text ≡ whole)

-- the first bytes of a text
abbrev pub IsFrontOf : List ℕ → List ℕ → Type 0
IsFrontOf whole text = (rest : List ℕ) × (whole ≡ text ++ rest)

-- ---- one line

-- some of its faults, in order: those at the fields from one on that are below another, which is no later than the end
abbrev pub TellsSome : Asking → JudgedLine → ℕ → ℕ → List ℕ → Type 0
TellsSome asked l from end text = (upto : ℕ) × (upto ≤ end) × (told : List Refusal) × Tells asked l from upto told text

-- nothing, or the findings of the transaction that it ends, that advice on it, and some of its faults
abbrev pub TellsPart : Asking → JudgedLine → Option EndedTransaction → List Advice → ℕ → List ℕ → Type 0
TellsPart asked l ended advice from text =
    (text ≡ [])
    ⊎ ((lines : List ℕ) × TellsSome asked l from (fields_end l.cut.kind) lines × (text ≡ ended_lines asked advice ended ++ lines))

-- so of the line that comes next
abbrev pub WalksPart : Asking → Walk → LineCut → ℕ → List ℕ → Type 0
WalksPart asked old l from text =
    TellsPart asked (judged_line old.state l) (ended_at old.state old.begun l)
    (told_ended asked old.advice (ended_at old.state old.begun l)) from text

-- ---- lines

-- all is told of the lines, or of all but the last one, and of that a part
abbrev pub IsLastPart : Asking → List (List ℕ) → List (List ℕ) → Walk → List ℕ → Type 0
IsLastPart asked lines front old text = ((lines ≡ front) × (text ≡ []))
    ⊎ ((line : List ℕ) × (lines ≡ front ++ line ∷ []) × (old.state.over ≡ false) × WalksPart asked old (cut_of line) 1 text)

-- what is told of lines, of the last one all or a part
pub record WalksSome (asked : Asking) (old : Walk) (lines : List (List ℕ)) (text : List ℕ) : Type 0 where
  pub front : List (List ℕ)
  pub told : List Refusal
  pub first : List ℕ
  pub between : Walk
  pub walks : WalksLines asked old front told first between
  pub later : List ℕ
  pub last : IsLastPart asked lines front between later
  pub whole : text ≡ first ++ later

-- the line of the refusal, and of the other faults of its line a part
pub record IsFirstPart (asked : Asking) (old : Walk) (refusal : Refusal) (cut : LineCut) (text : List ℕ) : Type 0 where
  pub line : List ℕ
  pub first : IsFaultText asked refusal line
  pub beside : List ℕ
  pub part : WalksPart asked old cut (min (refusal.field + 1) (2 ^ 8 - 1)) beside
  pub whole : text ≡ line ++ beside

-- all that is told of the line of the refusal, and of the lines after it what is told up to a part of the last one
pub record IsLaterPart (asked : Asking) (old : Walk) (refusal : Refusal) (cut : LineCut) (lines : List (List ℕ)) (text : List ℕ)
    : Type 0 where
  pub line : List ℕ
  pub first : IsFaultText asked refusal line
  pub others : List Refusal
  pub beside : List ℕ
  pub between : Walk
  pub tells_others : WalksLine asked old cut (min (refusal.field + 1) (2 ^ 8 - 1)) others beside between
  pub later : List ℕ
  pub walks : WalksSome asked between lines later
  pub whole : text ≡ line ++ beside ++ later

-- What is told up to a fault, where these lines were read after the refused one: of its line a part, or all, and of the last one a part;
-- or all is told of all, and of the sums a part.
abbrev pub IsToldUpTo : Asking → Walk → Refusal → List ℕ → List (List ℕ) → List ℕ → Type 0
IsToldUpTo asked begins refusal refused lines text =
    ((lines ≡ []) × IsFirstPart asked begins refusal (cut_of refused) text)
    ⊎ IsLaterPart asked begins refusal (cut_of refused) lines text
    ⊎ ((over : Bool) × (whole : List ℕ) × IsTold asked begins refusal refused lines over whole × IsFrontOf whole text)

-- ---- the steps of a run

-- the reader failed, or a line was read after another one that has ended, and a part of it was told
pub record TakesPart (asked : Asking) (left : Option (List ℕ)) (before : RawLine) (old : LintRun) (text : List ℕ) : Type 0 where
  pub on : old.state.over ≡ false
  pub goes : before.ended ≡ true
  pub raw : RawLine
  pub mid : Option (List ℕ)
  pub read : ReadsLine left mid raw
  pub part : WalksPart asked (walk_of old) (cut_of read.line) 1 text

abbrev pub TakesNextPart : Asking → Option (List ℕ) → RawLine → LintRun → List ℕ → Type 0
TakesNextPart asked left before old text = (text ≡ []) ⊎ TakesPart asked left before old text

-- lines were read after one that has ended or not, and told up to a part of the last one
pub record TakesSome (asked : Asking) (left : Option (List ℕ)) (ended : Bool) (old : LintRun) (text : List ℕ) : Type 0 where
  pub bytes : List ℕ
  pub mid : Option (List ℕ)
  pub taken : Consumes left mid bytes
  pub lines : List (List ℕ)
  pub last : Bool
  pub goes : GoesOn ended bytes lines last
  pub no_lf : AllByRecursion (λ line. IsFalse (list_any is_lf line)) lines
  pub walks : WalksSome asked (walk_of old) lines text

-- a part of the line that is refused was told, or all of it and so the lines after it
abbrev pub TakesFromPart : Asking → Refusal → RawLine → LintRun → Option (List ℕ) → List ℕ → Type 0
TakesFromPart asked refusal raw old left text =
    IsFirstPart asked (walk_of old) refusal (held_cut (held_raw raw)) text
    ⊎ ((between : LintRun) × (beside : List ℕ) × TakesFirst asked refusal (held_cut (held_raw raw)) old between beside
    × (later : List ℕ) × TakesSome asked left raw.ended between later × (text ≡ beside ++ later))

-- what is told up to a fault, of the line that is held as it was refused, where that was held, and of those after it
pub record TellsUpTo (asked : Asking) (begins : Walk) (refusal : Refusal) (raw : RawLine) (left : Option (List ℕ))
    (text : List ℕ) : Type 0 where
  pub bytes : List ℕ
  pub mid : Option (List ℕ)
  pub taken : Consumes left mid bytes
  pub lines : List (List ℕ)
  pub last : Bool
  pub goes : GoesOn raw.ended bytes lines last
  pub no_lf : AllByRecursion (λ line. IsFalse (list_any is_lf line)) lines
  pub told : (refused : List ℕ) → HoldsRaw refused raw → IsToldUpTo asked begins refusal refused lines text

-- the line that was refused is the one that was read last
pub record TellsLastUpTo (asked : Asking) (begins : Walk) (refusal : Refusal) (last : LastBytes) (left : Option (List ℕ))
    (text : List ℕ) : Type 0 where
  pub between : Option (List ℕ)
  pub raw : RawLine
  pub held : IsOfLine raw
  pub read : ReadsLast left between last raw
  pub tells : TellsUpTo asked begins refusal raw between text

-- so it is told from where the records had come before the refused line, of which the last bytes are held, and after so many findings and so
-- much advice of each rule
abbrev pub TellsAfterUpTo : Asking → LastRead → ℕ → List ℕ → Refusal → Option (List ℕ) → List ℕ → Type 0
TellsAfterUpTo asked last found advice refusal left text =
    TellsLastUpTo asked (begins_at (state_at last.stage last.counts (refusal.rec - 1)) found advice) refusal last.bytes left text

-- ---- a whole lint

-- where the fault is the writer's the first bytes of such a text, and else one
abbrev pub IsCutText : (List ℕ → Type 0) → ToolFault → List ℕ → Type 0
IsCutText P (Writer written) text = (rest : List ℕ) × P (text ++ rest)
IsCutText P fault text = P text

-- before a fault such a text was appended, or the reader failed before any
abbrev pub AppendsUpTo : {W : Type 0} → (W → Option (List ℕ)) → W → W → Result Verdict ToolFault → (List ℕ → Type 0) → Type 0
AppendsUpTo contents old new (Ok verdict) P = Unit {0}
AppendsUpTo contents old new (Err fault) P =
    (text : List ℕ) × IsCutText (λ it. IsUnread fault it ⊎ P it) fault text × Appends (contents old) (contents new) text
