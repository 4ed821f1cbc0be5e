-- The row of what was found, and one input more among others.
use Rattle.std.proofs.Common.{◌≡◌, ◌∙◌, ℕ, ◌-◌, ◌^◌, Bool, true, false, List, [], ◌∷◌, ◌++◌, length, Option, Some, None, refl, sym, ap, subst}
use denote.Ref.{Bor}
use Rattle.std.specs.Prelude.{IfSome, OnOk, Result, Ok, Err, min}
use Rattle.std.specs.Io.KnownBytes.{Appends}
use Rattle.sha2.specs.Sha256.{sha256}
use Rattle.cwr_shape.specs.declared.limits.Limits.{Limits}
use Rattle.cwr_values.specs.Format.Rows.{canonical_text}
use Rattle.cwr_values.specs.declared.items.Item.{Item}
use Rattle.cwr_judge.proofs.lemmas.Accepted.{accepted_once}
use Rattle.cwr_summary.proofs.lemmas.Summed.{summed_up}
use Rattle.cwr_summary_rows.specs.declared.forms.Form.{Form}
use Rattle.cwr_summary_rows.specs.Format.Rows.{RowValue}
use Rattle.cwr_tools.specs.declared.verdicts.Verdict.{Verdict}
use Rattle.cwr_tools.specs.declared.verdicts.Verdict.TheVariants.{Good, Refused, Truncated}
use Rattle.cwr_tools.specs.declared.verdicts.ToolFault.{ToolFault}
use Rattle.cwr_tools.specs.Format.Verdicts.{IsVerdictAfter}
use Rattle.cwr_files.specs.declared.faults.Fault.{Fault}
use Rattle.cwr_files.specs.declared.faults.Fault.TheVariants as faults
use Rattle.cwr_files.specs.Format.Files.{Texts}
use Rattle.cwr_files.specs.Format.Inputs.{IsUnopenedBy}
use Rattle.cwr_files.specs.Steps.Inputs.{IsLeftOf}
use Rattle.cwr_files.proofs.lemmas.Unopened.{by_unopened}
use Rattle.cwr_endings.specs.declared.endings.Look.{Look}
use Rattle.cwr_endings.specs.declared.endings.Look.TheVariants as looks
use Rattle.cwr_endings.specs.declared.endings.Status.{Status}
use Rattle.cwr_endings.specs.declared.endings.Status.TheVariants as statuses
use Rattle.cwr_endings.specs.declared.judgements.Judgement.{Judgement}
use Rattle.cwr_endings.specs.declared.stops.Stop.{Stop}
use Rattle.cwr_endings.specs.Format.Endings.{IsStatusBy, worse_status}
use Rattle.cwr_endings.specs.Steps.Looks.{CountsLook}
use Rattle.cwr_reports.specs.Format.Endings.{Counts}
use Rattle.cwr_reports.specs.Steps.Looks.{IsJudged}
use Rattle.cwr_reports.specs.Steps.Marked.{CountsEnd}
use Rattle.cwr_answers.specs.Format.Endings.{wanted_of}
use Rattle.cwr_digests.specs.Format.Digests.{HasBytes, digest_of}
use Rattle.cwr_summaries.specs.declared.summaries.Found.{Found}
use Rattle.cwr_summaries.specs.declared.summaries.Totals.{Totals}
use Rattle.cwr_summaries.specs.Format.Rows.{EndsRow, IsRowOn, name_in, rows_text}
use Rattle.cwr_summaries.specs.Steps.Digesting.{IsDigestOf}
use Rattle.cwr_summaries.specs.Steps.Rows.{AddsInput, HasBehind, IsFound, IsInput, TellsNext, failed_input, if_good, input_of, row_of}
use Rattle.cwr_summaries.proofs.lemmas.Digesting.{digest_is}

-- ---- the row of what was found

ends_row : (limits : Limits) (text : List ℕ) (verdict : Verdict) (after : ℕ) (digest : Option (List ℕ)) (given : List Item) (row : RowValue)
    → IsVerdictAfter limits text verdict given → HasBehind limits text verdict after → IfSome digest (λ d. IsDigestOf d given)
    → row.after ≡ if_good verdict (Some after) → row.canonical ≡ if_good verdict digest → EndsRow limits text verdict row
ends_row limits text (Good groups transactions records) after digest given row read behind digests told canonical =
    let same = accepted_once limits text read.0 behind.0 read.1 behind.1 read.2 behind.2 in (
      read.0,
      read.1,
      read.2,
      told ∙ ap (λ (k : ℕ). Some k) behind.3 ∙ ap (λ (n : ℕ). Some (min (length text - n) (2 ^ 64 - 1))) (sym same.1),
      subst (λ (o : Option (List ℕ)). IfSome o (λ d. d ≡ sha256 (canonical_text read.0))) (sym canonical) (digest_is digest given read.0 read.2.whole read.4 digests),
    )
ends_row limits text (Refused refusal) after digest given row read behind digests told canonical = (told, canonical)
ends_row limits text (Truncated records) after digest given row read behind digests told canonical = (told, canonical)

pub row_on : (limits : Limits) (digests : Bool) (text : List ℕ) (name : List ℕ) (advice : Option (ℕ × ℕ × ℕ)) (found : Found)
    → IsFound limits text found → (found.bytes ≡ min (length text) (2 ^ 64 - 1)) × (found.digest ≡ digest_of digests text)
    → IsRowOn limits digests text found.judgement.verdict found.summed.header (row_of name advice found)
row_on limits digests text name advice found is bytes = record {
  given = is.given;
  read = is.read;
  opened = is.here.1;
  numbers = found.summed.summary.numbers;
  told = refl;
  sums = summed_up is.given found.summed.summary.numbers found.summed.summary.whole is.here.0;
  bytes = ap (λ (n : ℕ). Some n) bytes.0;
  digest = bytes.1;
  ended = ends_row limits text found.judgement.verdict found.after found.summed.digest is.given (row_of name advice found) is.read is.behind
      is.here.2.digests refl refl;
}

-- ---- one input more

worse_fault : (status : Status) → worse_status status statuses.Fault ≡ statuses.Fault
worse_fault statuses.Fault = refl
worse_fault statuses.CommandLine = refl
worse_fault statuses.Refused = refl
worse_fault statuses.Good = refl

pub unopened_counts : {I : Type 0} (name : Option (List ℕ)) (standard : Option I) (old new : ℕ) (fault : Fault)
    → IsUnopenedBy name standard old new fault → CountsEnd (Err fault) old new
unopened_counts name standard old new fault h =
    by_unopened name standard old new (λ (f : Fault). CountsEnd (Err f) old new) (λ is gone same. same) (λ of reason is word counted. counted)
    fault h

module _ {W : Type 0} (form : Form) (limits : Limits) (digests whole quiet : Bool) (held : Option Texts) (standard : Option (List ℕ))
    (name : List ℕ) (contents : W → Option (List ℕ)) (lines after : W) (failures now : ℕ) (totals totals_now : Totals) where
  -- that failed
  pub failed_next : (fault : Fault) (told : Result (Unit {0}) Stop) → CountsEnd (Err fault) failures now
      → ((word : List ℕ) (f : Fault) → AddsInput (failed_input word f) totals totals_now) → totals_now.sums.status ≡ statuses.Fault
      → OnOk told ((f : Fault) → Appends (contents lines) (contents after) (rows_text form quiet (failed_input (name_in form name) f ∷ [])))
      → TellsNext form limits digests whole quiet held standard name contents lines after failures now totals totals_now told
  failed_next fault (Err stop) counted adds failed told = tt
  failed_next fault (Ok u) counted adds failed told = (
    failed_input (name_in form name) fault,
    (refl, refl),
    told fault,
    counted,
    adds (name_in form name) fault,
    failed ∙ sym (worse_fault totals.sums.status),
  )

  -- that was read
  pub found_next : (found : Found) (left : Option (List ℕ)) (told : Result (Unit {0}) Stop) → IsLeftOf held standard (Some name) left
      → IsJudged found.judgement
      → IfSome left (λ text. IsStatusBy (Counts None) limits (wanted_of whole) text found.judgement.status)
      → IfSome left (λ text. IsFound limits text found) → HasBytes digests left found.bytes found.digest
      → CountsLook found.judgement.look failures now
      → ((word : List ℕ) (advice : Option (ℕ × ℕ × ℕ)) → AddsInput (input_of word advice found) totals totals_now)
      → totals_now.sums.status ≡ worse_status totals.sums.status found.judgement.status
      → OnOk told ((advice : Option (ℕ × ℕ × ℕ)) × Appends (contents lines) (contents after)
      (rows_text form quiet (input_of (name_in form name) advice found ∷ [])))
      → TellsNext form limits digests whole quiet held standard name contents lines after failures now totals totals_now told
  found_next found left (Err stop) is judged status found_so bytes counted adds worse told = tt
  found_next found left (Ok u) is judged status found_so bytes counted adds worse told = (
    input_of (name_in form name) told.0 found,
    (refl, refl, refl, refl, judged, left, is, on left status found_so bytes),
    told.1,
    counted,
    adds (name_in form name) told.0,
    worse,
  )
    where
      on : (o : Option (List ℕ)) → IfSome o (λ text. IsStatusBy (Counts None) limits (wanted_of whole) text found.judgement.status)
          → IfSome o (λ text. IsFound limits text found) → HasBytes digests o found.bytes found.digest
          → IfSome o (λ text. IsStatusBy (Counts None) limits (wanted_of whole) text found.judgement.status
          × IsRowOn limits digests text found.judgement.verdict found.summed.header (row_of (name_in form name) told.0 found))
      on None s f b = tt
      on (Some text) s f b = (s, row_on limits digests text (name_in form name) told.0 found f b)
