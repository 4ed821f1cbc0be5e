-- How a lint goes from line to line: what it holds between two of them, and what it tells.
use Rattle.std.specs.Prelude.{◌≡◌, ◌⊎◌, ℕ, ◌+◌, ◌-◌, ◌^◌, ◌==◌, min, Bool, true, false, ◌&&◌, is_some, List, [], ◌∷◌, ◌++◌}
use Rattle.std.specs.Prelude.{length, Option, Some, None, if◌then◌else◌}
use Rattle.cwr_lines.specs.Format.Records.{RecordValue, IsRecord}
use Rattle.cwr_lines.specs.Steps.Held.{HeldLine, carried_by}
use Rattle.cwr_values.specs.Format.Begun.{BeginsWithOneMore}
use Rattle.cwr_judge.specs.declared.refusals.Refusal.{Refusal}
use Rattle.cwr_findings.specs.Format.Findings.{findings}
use Rattle.cwr_findings.specs.Format.ReportLines.{faults_line}
use Rattle.cwr_lint.specs.Format.Told.{truncated_unless}
use Rattle.cwr_lint_lines.specs.declared.judged_lines.Judged.{Judged}
use Rattle.cwr_lint_lines.specs.declared.judged_lines.Judged.TheVariants.{Unknown, Known as Of}
use Rattle.cwr_lint_lines.specs.declared.states.OpenGroup.{OpenGroup}
use Rattle.cwr_lint_lines.specs.declared.states.LintState.{LintState}
use Rattle.cwr_lint_lines.specs.declared.takings.Taking.{Taking}
use Rattle.cwr_lint_lines.specs.declared.takings.Taking.TheVariants as takings
use Rattle.cwr_lint_lines.specs.Format.FaultsAtFields.{JudgedLine, LineCut, cut_of, one_more_line, report_number}
use Rattle.cwr_lint.specs.Format.FaultsOfLines.{Asking, EndedTransaction, IsFaultText, TellsLine, advice_ended}
use Rattle.cwr_lint.specs.Format.FaultsOfLines.{count_after}
use Rattle.cwr_advice.specs.declared.rules.Advice.{Advice}
use Rattle.cwr_advise.specs.Steps.AdviceCounts.{counts_after, summary_by, told_by}
use Rattle.cwr_lint_lines.specs.Steps.JudgedLines.{judged_as, judged_at, judged_cut, scope_by}
use Rattle.cwr_lint_lines.specs.Steps.NextStates.{state_with, state_with_unknown}
use Rattle.cwr_lint_lines.specs.Steps.States.{is_whole, open_transaction}

-- ---- one line

-- the line that comes next, as it is judged
abbrev pub judged_line : LintState → LineCut → JudgedLine
judged_line st l = judged_cut st.lines (scope_by st.group) l (judged_as st l)

-- the state after it
abbrev pub state_by : Judged → LintState → LineCut → LintState
state_by Unknown st l = state_with_unknown st l.blank
state_by (Of known) st l = state_with st known.taken known.misplaced known.kind l

abbrev pub next_state : LintState → LineCut → LintState
next_state st l = state_by (judged_as st l) st l

-- ---- the open transaction's records, as long as it has no fault

-- a line that is taken so ends it
abbrev pub ends_by_taking : Taking → Bool
ends_by_taking takings.Further = false
ends_by_taking takings.Other = false
ends_by_taking taken = true

abbrev pub ends_transaction : Judged → Bool
ends_transaction Unknown = false
ends_transaction (Of known) = ends_by_taking known.taken

-- what is judged of a line that comes in that state
abbrev pub judged_in : LintState → HeldLine → Judged → JudgedLine
judged_in st h judged = judged_at st.lines (scope_by st.group) h judged

-- as it is reported, in that group
abbrev pub ended_in : LintState → Option OpenGroup → Option (List RecordValue) → Option EndedTransaction
ended_in st (Some g) (Some records) = Some (record {
  group = report_number g.id;
  sequence = report_number (open_transaction g).number;
  first = min ((st.lines - length records) + 1) (2 ^ 64 - 1);
  records = records;
})
ended_in st group begun = None

-- the transaction that such a line ends: it has no fault, and is whole
abbrev pub ended_by : Judged → LintState → Option (List RecordValue) → Option EndedTransaction
ended_by judged st begun = if ends_transaction judged && is_whole st then ended_in st st.group begun else None

abbrev pub ended_at : LintState → Option (List RecordValue) → LineCut → Option EndedTransaction
ended_at st begun l = ended_by (judged_as st l) st begun

-- a record begins a transaction or goes on in one, where some transaction has it there
abbrev pub GoesOnWith : List RecordValue → RecordValue → Option (List RecordValue) → Type 0
GoesOnWith records r new =
    ((¬ (¬ BeginsWithOneMore records r)) × (new ≡ Some (records ++ r ∷ []))) ⊎ ((¬ BeginsWithOneMore records r) × (new ≡ None))

-- after the record of a line that is taken so, and after which the order is known or not
abbrev pub AfterRecord : Taking → Bool → Option (List RecordValue) → RecordValue → Option (List RecordValue) → Type 0
AfterRecord (takings.Header ty) in_step old r new = GoesOnWith [] r new
AfterRecord takings.Further true (Some records) r new = GoesOnWith records r new
AfterRecord taken in_step old r new = new ≡ None

abbrev pub AfterCarried : Taking → Bool → Option (List RecordValue) → Option RecordValue → Option (List RecordValue) → Type 0
AfterCarried taken in_step old None new = new ≡ None
AfterCarried taken in_step old (Some r) new = (IsRecord r × AfterRecord taken in_step old r new) ⊎ ((¬ IsRecord r) × (new ≡ None))

-- after a line without faults, and after any other
abbrev pub AfterJudged : Bool → Judged → Bool → Option (List RecordValue) → LineCut → Option (List RecordValue) → Type 0
AfterJudged true (Of known) in_step old l new = AfterCarried known.taken in_step old (carried_by l.kind l.cells) new
AfterJudged good judged in_step old l new = new ≡ None

-- no fault was told
abbrev pub is_quiet : List Refusal → Bool
is_quiet [] = true
is_quiet (f ∷ told) = false

-- how many findings were told, with those of the transaction that ends more; the count stays at the largest number of 64 bits
abbrev pub findings_after : ℕ → Option EndedTransaction → ℕ
findings_after before None = before
findings_after before (Some t) = min (before + length (findings t.records)) (2 ^ 64 - 1)

-- the advice on the transaction that ends which is told after so many pieces of each rule
abbrev pub told_ended : Asking → List ℕ → Option EndedTransaction → List Advice
told_ended asked counts ended = told_by asked.all counts (advice_ended asked ended)

-- how many pieces came from each rule with those on it
abbrev pub counts_ended : Asking → List ℕ → Option EndedTransaction → List ℕ
counts_ended asked counts ended = counts_after counts (advice_ended asked ended)

-- ---- lines, one after another

-- what is held between two lines, how many findings were told, and how much advice came from each rule
pub record Walk : Type 0 where
  pub state : LintState
  pub begun : Option (List RecordValue)
  pub findings : ℕ
  pub advice : List ℕ

-- what is held where a check has met the first fault, and has told so many findings, and so much advice came from each rule
abbrev pub begins_at : LintState → ℕ → List ℕ → Walk
begins_at state found advice = record { state = state; begun = None; findings = found; advice = advice }

-- What is told of one more line, at its fields from one on, and what is held after it.
pub record WalksLine (asked : Asking) (old : Walk) (l : LineCut) (from : ℕ) (told : List Refusal) (text : List ℕ)
    (new : Walk) : Type 0 where
  pub tells : TellsLine asked (judged_line old.state l) (ended_at old.state old.begun l)
      (told_ended asked old.advice (ended_at old.state old.begun l)) from told text
  pub state : new.state ≡ next_state old.state l
  pub begun : AfterJudged (is_quiet told && (from == 1)) (judged_as old.state l) (is_some new.state.stage) old.begun l new.begun
  pub findings : new.findings ≡ findings_after old.findings (ended_at old.state old.begun l)
  pub advice : new.advice ≡ counts_ended asked old.advice (ended_at old.state old.begun l)

-- what is told of lines, and what is held after them
abbrev pub WalksLines : Asking → Walk → List (List ℕ) → List Refusal → List ℕ → Walk → Type 0
WalksLines asked old [] told text new = (told ≡ []) × (text ≡ []) × (new ≡ old)
WalksLines asked old (line ∷ lines) told text new =
    (old.state.over ≡ false) × (between : Walk) × (here : List Refusal) × (first : List ℕ) × (later : List Refusal)
    × (rest : List ℕ)
    × WalksLine asked old (cut_of line) 1 here first between × WalksLines asked between lines later rest new
    × (told ≡ here ++ later) × (text ≡ first ++ rest)

-- The line of the refusal; the other faults of the line that is refused, which is this one; those of the lines after it; how much of the
-- advice isn't told; and how many faults and findings there are, in how many lines. Words stand under a fault where they are asked for. At the line that is refused that is held, and so many findings were told
-- before.
pub record IsTold (asked : Asking) (begins : Walk) (refusal : Refusal) (refused : List ℕ) (lines : List (List ℕ))
    (over : Bool) (text : List ℕ) : Type 0 where
  pub line : List ℕ
  pub first : IsFaultText asked refusal line
  pub others : List Refusal
  pub beside : List ℕ
  pub between : Walk
  pub tells_others : WalksLine asked begins (cut_of refused)
      (min (refusal.field + 1) (2 ^ 8 - 1)) others beside between
  pub later : List Refusal
  pub after : List ℕ
  pub last : Walk
  pub tells_later : WalksLines asked between lines later after last
  pub over_is : over ≡ last.state.over
  pub whole : let n = count_after (one_more_line (refusal.rec - 1)) lines in
      text ≡ line ++ beside ++ after ++ summary_by asked.all last.advice ++ truncated_unless over n
      ++ faults_line (min (1 + length others + length later) (2 ^ 64 - 1)) last.findings n
