-- A summary has the status of a fault only where an input failed.
use Rattle.std.proofs.Common.{◌≡◌, ◌≢◌, ℕ, Bool, List, [], ◌∷◌, map, Option, None, sym}
use Rattle.std.specs.Prelude.{IfOk, Result, Ok, Err}
use Rattle.std.specs.List.{AllZip}
use Rattle.cwr_shape.specs.declared.limits.Limits.{Limits}
use Rattle.cwr_files.specs.declared.faults.Fault.{Fault}
use Rattle.cwr_files.specs.declared.faults.Fault.TheVariants as faults
use Rattle.cwr_files.specs.Format.Files.{Texts}
use Rattle.cwr_endings.specs.declared.endings.Status.{Status}
use Rattle.cwr_endings.specs.declared.endings.Status.TheVariants as statuses
use Rattle.cwr_endings.specs.declared.judgements.Judgement.{Judgement}
use Rattle.cwr_endings.specs.declared.stops.Stop.{Stop}
use Rattle.cwr_endings.specs.declared.stops.Stop.TheVariants as stops
use Rattle.cwr_endings.specs.Format.Endings.{worse_status}
use Rattle.cwr_reports.specs.Format.Endings.{EndsOnEach}
use Rattle.cwr_reports.specs.Steps.Looks.{IsJudged}
use Rattle.cwr_reports.specs.Steps.Marked.{CountsEnds, status_in, worst_from}
use Rattle.cwr_answers.specs.Format.Endings.{wanted_of}
use Rattle.cwr_answers.specs.Format.Failures.{IsFaultOfOne}
use Rattle.cwr_summary_rows.specs.declared.forms.Form.{Form}
use Rattle.cwr_summaries.specs.Format.Rows.{SummedInput}
use Rattle.cwr_summaries.specs.Steps.Rows.{IsInput, SaysEnd, TellsRows, piece_of}
use Rattle.cwr_summaries.specs.Format.Summed.{summed}
use Rattle.cwr.specs.Format.Failures.{FailsEach}
use Rattle.cwr.proofs.lemmas.Failing.{ends_fail, next_failed}

module _ (form : Form) (limits : Limits) (digests whole : Bool) (held : Option Texts) (standard : Option (List ℕ)) where
  end_read : (name : List ℕ) (input : SummedInput) (end : Result Judgement Fault) → SaysEnd form limits digests whole held standard name input end
      → IfOk end IsJudged
  end_read name input (Ok judgement) h = h.4
  end_read name input (Err fault) h = tt

  one_failed : (names : List (List ℕ)) (inputs : List SummedInput) (status : Status) (old now : ℕ)
      → AllZip (IsInput form limits digests whole held standard) names inputs → CountsEnds (map piece_of inputs) old now
      → status ≢ statuses.Fault → worst_from status (map piece_of inputs) ≡ statuses.Fault → (fault : Fault) × IsFaultOfOne fault old now
  one_failed names [] status old now each counted not e = absurd (not e)
  one_failed [] (input ∷ inputs) status old now each counted not e = absurd each
  one_failed (name ∷ names) (input ∷ inputs) status old now each counted not e =
      next_failed input.end status old counted.0 now counted.1 (ends_fail (map piece_of inputs) counted.0 now counted.2) not
      (end_read name input input.end each.0)
      (λ still. one_failed names inputs (worse_status status (status_in input.end)) counted.0 now each.1 counted.2 still e)

  pub summed_failed : {W : Type 0} (quiet : Bool) (names : List (List ℕ)) (contents : W → Option (List ℕ)) (old new : W) (failures now : ℕ)
      (ending : Result Status Stop) → EndsOnEach None limits (wanted_of whole) held standard (summed names) ending
      → TellsRows form limits digests whole quiet held standard names contents old new failures now ending → FailsEach ending failures now
  summed_failed quiet names contents old new failures now (Ok statuses.Good) ends h = tt
  summed_failed quiet names contents old new failures now (Ok statuses.Refused) ends h = tt
  summed_failed quiet names contents old new failures now (Ok statuses.CommandLine) ends h = tt
  summed_failed quiet names contents old new failures now (Ok statuses.Fault) ends h =
      one_failed (summed names) h.0 statuses.Good failures now h.1 h.5 (λ e. cc e) (sym h.6)
  summed_failed quiet names contents old new failures now (Err stops.Output) ends h = tt
  summed_failed quiet names contents old new failures now (Err (stops.Fault faults.Memory)) ends h = tt
  summed_failed quiet names contents old new failures now (Err (stops.Fault (faults.Open of reason))) ends h = absurd ends
  summed_failed quiet names contents old new failures now (Err (stops.Fault (faults.Read told))) ends h = absurd ends
  summed_failed quiet names contents old new failures now (Err (stops.Fault (faults.Write told))) ends h = absurd ends
  summed_failed quiet names contents old new failures now (Err (stops.Fault (faults.Output of reason))) ends h = absurd ends
  summed_failed quiet names contents old new failures now (Err (stops.Fault (faults.IsInput of))) ends h = absurd ends
  summed_failed quiet names contents old new failures now (Err (stops.Fault (faults.IsThere of))) ends h = absurd ends
  summed_failed quiet names contents old new failures now (Err (stops.Fault (faults.IsTwice of))) ends h = absurd ends
  summed_failed quiet names contents old new failures now (Err (stops.Fault (faults.IsOther of))) ends h = absurd ends
  summed_failed quiet names contents old new failures now (Err (stops.Fault (faults.IsLate of))) ends h = absurd ends
