-- What is left of data or a table that is written to a file.
use Rattle.std.proofs.Common.{◌≡◌, ℕ, zero, suc, ◌+◌, ◌≤◌, ◌<◌, Bool, true, List, [], Option, Some, None, refl, sym, subst, arith, true≢false}
use Rattle.std.specs.Prelude.{IfOk, IfSome, Result, Ok, Err}
use Rattle.std.specs.Io.KnownBytes.{Keeps}
use Rattle.cwr_devices.specs.Format.Failures.{most_failures}
use Rattle.cwr_shape.specs.declared.limits.Limits.{Limits}
use Rattle.cwr_tools.specs.declared.verdicts.Verdict.{Verdict}
use Rattle.cwr_tools.specs.declared.verdicts.ToolFault.{ToolFault}
use Rattle.cwr_tools.specs.declared.verdicts.ToolFault.TheVariants as tool_faults
use Rattle.cwr_tools.specs.Format.Reports.{ItemLines, lines_of_data, text_on}
use Rattle.cwr_tools.specs.Steps.Reports.{Reports}
use Rattle.cwr_tools.specs.Steps.Verdicts.{IsRightVerdict}
use Rattle.cwr_tools.proofs.lemmas.ToldTexts.{verdict_after}
use Rattle.cwr_tables.specs.Format.TableLines.{lines_of_table}
use Rattle.cwr_files.specs.declared.faults.Told.{Told}
use Rattle.cwr_files.specs.Format.Files.{Texts, counted_on}
use Rattle.cwr_files.specs.Steps.Inputs.{IsLeftOf}
use Rattle.cwr_files.proofs.lemmas.Reads.{if_read}
use Rattle.cwr_endings.specs.declared.endings.Look.{Look}
use Rattle.cwr_endings.specs.declared.endings.Look.TheVariants as looks
use Rattle.cwr_endings.specs.declared.endings.Status.{Status}
use Rattle.cwr_endings.specs.declared.endings.Status.TheVariants as statuses
use Rattle.cwr_endings.specs.declared.endings.Wanted.{Wanted}
use Rattle.cwr_endings.specs.declared.judgements.Judgement.{Judgement}
use Rattle.cwr_endings.specs.declared.stops.Stop.{Stop}
use Rattle.cwr_endings.specs.Format.Endings.{SettlesOut, WritesOut}
use Rattle.cwr_endings.specs.Steps.Looks.{CountsLook}
use Rattle.cwr_endings.proofs.lemmas.Outs.{kept_whole, leaves_fewer}
use Rattle.cwr_reports.specs.declared.tellings.Telling.{Telling}
use Rattle.cwr_reports.specs.declared.tellings.Telling.TheVariants as tellings
use Rattle.cwr_reports.specs.Format.Exports.{ExportEndsAs, IsExportAt, IsExportOf, IsTextOn, is_data, is_good, is_good_status}
use Rattle.cwr_reports.specs.Format.Endings.{EndsAsExport}
use Rattle.cwr_reports.specs.Steps.Looks.{JudgesOn}
use Rattle.cwr_reports.specs.Steps.Tellings.{CountsInput, CountsWriting, TellsText}

-- ---- the text

-- what was written to a file that was empty, and kept
text_written : {W : Type 0} (of : ItemLines) (limits : Limits) (before after : Option (List ℕ)) (contents : W → Option (List ℕ)) (old new : W)
    (verdict : Verdict) (final : Option (List ℕ)) → contents old ≡ Some [] → Keeps (contents new) final
    → Reports of limits before after contents old new (Ok verdict)
    → (text : List ℕ) × (final ≡ Some text) × IsTextOn of limits before text
text_written of limits before after contents old new verdict final empty kept h = (
  text_on of h.0 verdict,
  kept_whole (contents old) (contents new) final (text_on of h.0 verdict) empty h.2 kept,
  by before h.1,
)
  where
    by : (known : Option (List ℕ)) → IsRightVerdict limits known verdict after h.0 → IsTextOn of limits known (text_on of h.0 verdict)
    by None right = tt
    by (Some text) right = (verdict, h.0, verdict_after limits text verdict after h.0 right, refl)

pub export_written : {W : Type 0} (telling : Telling) (limits : Limits) (before : Option (List ℕ)) (contents : W → Option (List ℕ)) (old new : W)
    (verdict : Verdict) (final : Option (List ℕ)) → is_data telling ≡ true → contents old ≡ Some [] → Keeps (contents new) final
    → TellsText telling limits before contents old new (Ok verdict)
    → (text : List ℕ) × (final ≡ Some text) × IsExportOf telling limits before text
export_written (tellings.Data encoding numbers) limits before contents old new verdict final is empty kept h =
    text_written (lines_of_data encoding numbers) limits before h.0 contents old new verdict final empty kept h.1
export_written (tellings.Rows encoding table) limits before contents old new verdict final is empty kept h =
    text_written (lines_of_table encoding table) limits before h.0 contents old new verdict final empty kept h.1
export_written tellings.Findings limits before contents old new verdict final is empty kept h = absurd (true≢false (sym is))
export_written (tellings.Explained name) limits before contents old new verdict final is empty kept h = absurd (true≢false (sym is))
export_written (tellings.Faults name advised all) limits before contents old new verdict final is empty kept h = absurd (true≢false (sym is))
export_written tellings.Records limits before contents old new verdict final is empty kept h = absurd (true≢false (sym is))
export_written (tellings.Answers form statuses) limits before contents old new verdict final is empty kept h = absurd (true≢false (sym is))
export_written (tellings.Advice all repeated) limits before contents old new verdict final is empty kept h = absurd (true≢false (sym is))

-- so it is of what was judged as good
pub good_written : {W : Type 0} (telling : Telling) (limits : Limits) (before : Option (List ℕ)) (contents : W → Option (List ℕ)) (old new : W)
    (judged : Result Judgement ToolFault) (final : Option (List ℕ)) → is_data telling ≡ true → is_good judged ≡ true
    → contents old ≡ Some [] → Keeps (contents new) final
    → IfOk judged (λ judgement. TellsText telling limits before contents old new (Ok judgement.verdict))
    → (text : List ℕ) × (final ≡ Some text) × IsExportOf telling limits before text
good_written telling limits before contents old new (Ok judgement) final told good empty kept h =
    export_written telling limits before contents old new judgement.verdict final told empty kept h
good_written telling limits before contents old new (Err fault) final told good empty kept h = absurd (true≢false (sym good))

-- ---- how many calls failed

-- how often a device failed by what was answered: the reader or the writer
abbrev pub judged_faults : Result Judgement ToolFault → ℕ
judged_faults (Err tool_faults.Reader) = 1
judged_faults (Err (tool_faults.Writer written)) = 1
judged_faults judged = 0

-- so many more at most
few_by : (times on now : ℕ) → now < most_failures → now ≤ on + times → now ≤ counted_on times on
few_by zero on now lt few = omega (arith, few)
few_by (suc times) on now lt few = omega (arith, lt, few)

few_looked : (look : Look) (times old on now : ℕ) → CountsLook look old on → now ≤ old + 0 → now < most_failures
    → now ≤ counted_on times on
few_looked looks.Failed times old on now e le lt = few_by times on now lt (omega (arith, e, le, lt))
few_looked looks.Unasked times old on now e le lt = few_by times on now lt (omega (arith, e, le))
few_looked (looks.Found trailing) times old on now e le lt = few_by times on now lt (omega (arith, e, le))

-- when the file was dropped
pub few_judged : (judged : Result Judgement ToolFault) (times old on now : ℕ) → CountsInput judged old on → CountsWriting judged 0 times
    → now ≤ old + judged_faults judged → now < most_failures → now ≤ counted_on times on
few_judged (Ok judgement) times old on now reads writes le lt = few_looked judgement.look times old on now reads le lt
few_judged (Err tool_faults.Reader) times old on now reads writes le lt = few_by times on now lt (omega (arith, reads, le, lt))
few_judged (Err (tool_faults.Writer n)) times old on now reads writes le lt =
    few_by times on now lt (omega (arith, reads, writes, le, lt))
few_judged (Err tool_faults.Memory) times old on now reads writes le lt = few_by times on now lt (omega (arith, reads, le))
few_judged (Err (tool_faults.Refused r)) times old on now reads writes le lt = few_by times on now lt (omega (arith, reads, le))
few_judged (Err (tool_faults.Truncated n)) times old on now reads writes le lt = few_by times on now lt (omega (arith, reads, le))
few_judged (Err tool_faults.Output) times old on now reads writes le lt = few_by times on now lt (omega (arith, reads, le))
few_judged (Err (tool_faults.Limit l)) times old on now reads writes le lt = few_by times on now lt (omega (arith, reads, le))

-- where the file can't have its name
few_kept : (look : Look) (old on now : ℕ) → CountsLook look old on → now ≤ old + 1 → now < most_failures → now ≤ on + 1
few_kept looks.Failed old on now e le lt = omega (arith, e, le, lt)
few_kept looks.Unasked old on now e le lt = omega (arith, e, le)
few_kept (looks.Found trailing) old on now e le lt = omega (arith, e, le)

pub few_unkept : (judged : Result Judgement ToolFault) (old on now : ℕ) → CountsInput judged old on → now ≤ old + 1 → now < most_failures
    → now ≤ on + 1
few_unkept (Ok judgement) old on now reads le lt = few_kept judgement.look old on now reads le lt
few_unkept (Err tool_faults.Reader) old on now reads le lt = omega (arith, reads, le, lt)
few_unkept (Err (tool_faults.Writer n)) old on now reads le lt = omega (arith, reads, le)
few_unkept (Err tool_faults.Memory) old on now reads le lt = omega (arith, reads, le)
few_unkept (Err (tool_faults.Refused r)) old on now reads le lt = omega (arith, reads, le)
few_unkept (Err (tool_faults.Truncated n)) old on now reads le lt = omega (arith, reads, le)
few_unkept (Err tool_faults.Output) old on now reads le lt = omega (arith, reads, le)
few_unkept (Err (tool_faults.Limit l)) old on now reads le lt = omega (arith, reads, le)

-- ---- the end

-- an export ends with the status on the text, where there is one
pub export_ends : (advice : Option (Bool × ℕ)) (limits : Limits) (wanted : Wanted) (before : Option (List ℕ)) (input file : Told)
    (judged : Result Judgement ToolFault) (ending : Result Status Stop) → JudgesOn advice limits wanted before judged
    → ExportEndsAs input file judged ending → EndsAsExport advice limits wanted before ending
export_ends advice limits wanted before input file (Ok judgement) ending h e = subst (EndsAsExport advice limits wanted before) (sym e) h
export_ends advice limits wanted before input file (Err tool_faults.Reader) ending h e =
    subst (EndsAsExport advice limits wanted before) (sym e) tt
export_ends advice limits wanted before input file (Err (tool_faults.Writer n)) ending h e =
    subst (EndsAsExport advice limits wanted before) (sym e) tt
export_ends advice limits wanted before input file (Err tool_faults.Memory) ending h e =
    subst (EndsAsExport advice limits wanted before) (sym e) tt
export_ends advice limits wanted before input file (Err (tool_faults.Refused r)) ending h e =
    subst (EndsAsExport advice limits wanted before) (sym e) tt
export_ends advice limits wanted before input file (Err (tool_faults.Truncated n)) ending h e =
    subst (EndsAsExport advice limits wanted before) (sym e) tt
export_ends advice limits wanted before input file (Err tool_faults.Output) ending h e =
    subst (EndsAsExport advice limits wanted before) (sym e) tt
export_ends advice limits wanted before input file (Err (tool_faults.Limit l)) ending h e =
    subst (EndsAsExport advice limits wanted before) (sym e) tt

module _ (out : List ℕ) (old now : ℕ) (is : List ℕ → Type 0) (texts new : Texts) where
  abbrev Ends : Result Status Stop → Type 0
  Ends ending = WritesOut out old now is ending texts new

  with_status : (status : Status) → SettlesOut out (old + 0) now is (is_good_status status) texts new → Ends (Ok status)
  with_status statuses.Good h = h
  with_status statuses.Refused h = leaves_fewer out old 0 now texts new h
  with_status statuses.CommandLine h = leaves_fewer out old 0 now texts new h
  with_status statuses.Fault h = leaves_fewer out old 0 now texts new h

  -- and leaves what that says
  pub export_leaves : (input file : Told) (judged : Result Judgement ToolFault) (ending : Result Status Stop)
      → ExportEndsAs input file judged ending → SettlesOut out (old + judged_faults judged) now is (is_good judged) texts new → Ends ending
  export_leaves input file (Ok judgement) ending e h = subst Ends (sym e) (with_status judgement.status h)
  export_leaves input file (Err tool_faults.Reader) ending e h = subst Ends (sym e) h
  export_leaves input file (Err (tool_faults.Writer n)) ending e h = subst Ends (sym e) h
  export_leaves input file (Err tool_faults.Memory) ending e h = subst Ends (sym e) (leaves_fewer out old 0 now texts new h)
  export_leaves input file (Err (tool_faults.Refused r)) ending e h = subst Ends (sym e) (leaves_fewer out old 0 now texts new h)
  export_leaves input file (Err (tool_faults.Truncated n)) ending e h = subst Ends (sym e) (leaves_fewer out old 0 now texts new h)
  export_leaves input file (Err tool_faults.Output) ending e h = subst Ends (sym e) (leaves_fewer out old 0 now texts new h)
  export_leaves input file (Err (tool_faults.Limit l)) ending e h = subst Ends (sym e) (leaves_fewer out old 0 now texts new h)

-- ---- of what a word names

export_some : (telling : Telling) (limits : Limits) (left : Option (List ℕ)) (text : List ℕ) → IsExportOf telling limits left text
    → IfSome left (λ known. IsExportOf telling limits (Some known) text)
export_some telling limits None text h = tt
export_some telling limits (Some known) text h = h

pub export_at : (telling : Telling) (limits : Limits) (held : Option Texts) (standard name left : Option (List ℕ)) (text : List ℕ)
    → IsLeftOf held standard name left → IsExportOf telling limits left text → IsExportAt telling limits held standard name text
export_at telling limits held standard name left text opened h =
    if_read held standard name left (λ known. IsExportOf telling limits (Some known) text) opened (export_some telling limits left text h)
