-- What failed where a run that writes data or a table to a file ends as one that did.
use Rattle.std.proofs.Common.{◌≡◌, ℕ, Bool, false, Bor, List, Option, sym, subst, arith}
use Rattle.std.specs.Prelude.{IfOk, Result, Ok, Err}
use Rattle.cwr_tools.specs.declared.verdicts.ToolFault.{ToolFault}
use Rattle.cwr_tools.specs.declared.verdicts.ToolFault.TheVariants as tool_faults
use Rattle.cwr_files.specs.declared.faults.Told.{Told}
use Rattle.cwr_files.specs.Format.Files.{Texts, counted_on}
use Rattle.cwr_files.specs.Steps.NewFiles.{HasKeptCount}
use Rattle.cwr_files.proofs.lemmas.Counts.{counted_kept, counted_then_kept, kept_then_counted, one_counted, same_count}
use Rattle.cwr_files.proofs.lemmas.Parts.{counted_up}
use Rattle.cwr_endings.specs.declared.endings.Look.{Look}
use Rattle.cwr_endings.specs.declared.endings.Look.TheVariants as looks
use Rattle.cwr_endings.specs.declared.endings.Status.{Status}
use Rattle.cwr_endings.specs.declared.endings.Status.TheVariants as statuses
use Rattle.cwr_endings.specs.declared.judgements.Judgement.{Judgement}
use Rattle.cwr_endings.specs.declared.stops.Stop.{Stop}
use Rattle.cwr_endings.specs.Format.Failures.{FailsToWrite}
use Rattle.cwr_endings.specs.Steps.Looks.{CountsLook}
use Rattle.cwr_reports.specs.Format.Exports.{ExportEndsAs, is_good}
use Rattle.cwr_reports.specs.Steps.Looks.{IsJudged, IsRead}
use Rattle.cwr_reports.specs.Steps.Tellings.{CountsInput, CountsWriting}

-- reading takes no failure away
look_kept : (look : Look) (old now : ℕ) → CountsLook look old now → HasKeptCount old now
look_kept (looks.Found trailing) old now e = same_count old now e
look_kept looks.Failed old now e = counted_kept old now (one_counted old now e)
look_kept looks.Unasked old now e = same_count old now e

pub input_kept : (judged : Result Judgement ToolFault) (old now : ℕ) → CountsInput judged old now → HasKeptCount old now
input_kept (Ok judgement) old now e = look_kept judgement.look old now e
input_kept (Err tool_faults.Reader) old now e = counted_kept old now (one_counted old now e)
input_kept (Err tool_faults.Memory) old now e = same_count old now e
input_kept (Err tool_faults.Output) old now e = same_count old now e
input_kept (Err (tool_faults.Writer n)) old now e = same_count old now e
input_kept (Err (tool_faults.Refused r)) old now e = same_count old now e
input_kept (Err (tool_faults.Truncated n)) old now e = same_count old now e
input_kept (Err (tool_faults.Limit l)) old now e = same_count old now e

module _ (out : Bor (List ℕ)) (making : Option (List ℕ)) (held after : Option Texts) (read told : Told) (f0 f2 f3 times : ℕ) (wanted : Bool)
    (kept : HasKeptCount f2 f3) (given_up : wanted ≡ false → HasKeptCount (counted_on times f2) f3) where
  status_fails : (status : Status) → IsRead status → FailsToWrite out making held after (Ok status) f0 f3
  status_fails statuses.Good h = tt
  status_fails statuses.Refused h = tt
  status_fails statuses.CommandLine h = tt
  status_fails statuses.Fault h = absurd h

  pub export_fails : (judged : Result Judgement ToolFault) (ending : Result Status Stop) → wanted ≡ is_good judged → IfOk judged IsJudged
      → CountsInput judged f0 f2 → CountsWriting judged 0 times → ExportEndsAs read told judged ending
      → FailsToWrite out making held after ending f0 f3
  export_fails (Ok judgement) ending is h reads writes ends =
      subst (λ (r : Result Status Stop). FailsToWrite out making held after r f0 f3) (sym ends) (status_fails judgement.status h)
  export_fails (Err tool_faults.Reader) ending is h reads writes ends =
      subst (λ (r : Result Status Stop). FailsToWrite out making held after r f0 f3) (sym ends)
      (counted_then_kept f0 f2 f3 (one_counted f0 f2 reads) kept)
  export_fails (Err (tool_faults.Writer n)) ending is h reads writes ends =
      subst (λ (r : Result Status Stop). FailsToWrite out making held after r f0 f3) (sym ends)
      (kept_then_counted f0 f2 f3 (same_count f0 f2 reads) (counted_up times f2 f3 (omega (arith, writes)) (given_up is)))
  export_fails (Err tool_faults.Memory) ending is h reads writes ends =
      subst (λ (r : Result Status Stop). FailsToWrite out making held after r f0 f3) (sym ends) tt
  export_fails (Err tool_faults.Output) ending is h reads writes ends =
      subst (λ (r : Result Status Stop). FailsToWrite out making held after r f0 f3) (sym ends) tt
  export_fails (Err (tool_faults.Refused r)) ending is h reads writes ends =
      subst (λ (x : Result Status Stop). FailsToWrite out making held after x f0 f3) (sym ends) tt
  export_fails (Err (tool_faults.Truncated n)) ending is h reads writes ends =
      subst (λ (r : Result Status Stop). FailsToWrite out making held after r f0 f3) (sym ends) tt
  export_fails (Err (tool_faults.Limit l)) ending is h reads writes ends =
      subst (λ (r : Result Status Stop). FailsToWrite out making held after r f0 f3) (sym ends) tt
