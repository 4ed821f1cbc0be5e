-- What failed where a split ends as one that did.
use Rattle.std.proofs.Common.{◌≡◌, ℕ, Bool, true, false, List, Option, Some, None, refl, sym, subst, arith}
use Rattle.std.specs.Prelude.{OnOk, Result, Ok, Err, if◌then◌else◌}
use Rattle.cwr_devices.specs.Format.Failures.{one_more_failure}
use Rattle.cwr_shape.specs.declared.limits.Limits.{Limits}
use Rattle.cwr_tools.specs.declared.verdicts.SplitReport.{SplitReport}
use Rattle.cwr_tools.specs.declared.verdicts.ToolFault.{ToolFault}
use Rattle.cwr_tools.specs.declared.verdicts.ToolFault.TheVariants as tool_faults
use Rattle.cwr_parts.specs.Format.Joins.{CountsInputFault}
use Rattle.cwr_files.specs.declared.faults.Fault.{Fault}
use Rattle.cwr_files.specs.declared.faults.Fault.TheVariants as faults
use Rattle.cwr_files.specs.declared.faults.Told.{Told}
use Rattle.std.proofs.lemmas.Option.{none-some}
use Rattle.cwr_files.specs.Format.Inputs.{IsUnopenedBy}
use Rattle.cwr_files.specs.Format.Faults.{IsFaultOfPart}
use Rattle.cwr_files.specs.Format.Files.{HasCounted, counted_on}
use Rattle.cwr_files.specs.Steps.NewFiles.{HasKeptCount}
use Rattle.cwr_files.proofs.lemmas.Counts.{kept_then_counted, one_counted, part_still, times_kept}
use Rattle.cwr_files.proofs.lemmas.Parts.{counted_up}
use Rattle.cwr_files.proofs.lemmas.Unopened.{by_unopened}
use Rattle.cwr_endings.specs.declared.endings.Look.{Look}
use Rattle.cwr_endings.specs.declared.endings.Look.TheVariants as looks
use Rattle.cwr_endings.specs.declared.endings.Status.{Status}
use Rattle.cwr_endings.specs.declared.endings.Status.TheVariants as statuses
use Rattle.cwr_endings.specs.declared.endings.Wanted.{Wanted}
use Rattle.cwr_endings.specs.declared.stops.Stop.{Stop}
use Rattle.cwr_endings.specs.declared.stops.Stop.TheVariants as stops
use Rattle.cwr_endings.specs.Steps.Looks.{CountsLook, follows, good_status, status_after}
use Rattle.cwr_transform.specs.Format.Splits.{FailsToCut, IsFaultOfCut}
use Rattle.cwr_transform.specs.Steps.Splits.{CountsCut, JudgesCut, SplitEndsAs, unless_stopped}

-- ---- where not all parts were made

pub stopped_judged : (limits : Limits) (before : Option (List ℕ)) (stopped : Bool) (outcome : Result SplitReport ToolFault) (look : Look)
    → JudgesCut limits before outcome look → JudgesCut limits before (unless_stopped stopped outcome) look
stopped_judged limits before false outcome look h = h
stopped_judged limits before true (Ok report) look h = tt
stopped_judged limits before true (Err fault) look h = h

pub stopped_counted : (stopped : Bool) (outcome : Result SplitReport ToolFault) (P : Type 0) → OnOk outcome P
    → OnOk (unless_stopped stopped outcome) P
stopped_counted false outcome P h = h
stopped_counted true (Ok report) P h = tt
stopped_counted true (Err fault) P h = tt

pub reads_stopped : (stopped : Bool) (outcome : Result SplitReport ToolFault) (look : Look) (old now : ℕ) → CountsCut outcome look old now
    → CountsCut (unless_stopped stopped outcome) look old now
reads_stopped false outcome look old now h = h
reads_stopped true (Ok report) look old now h = tt
reads_stopped true (Err fault) look old now h = h

-- where the split failed
pub reads_failed : (fault : ToolFault) (look : Look) (old now : ℕ) → CountsInputFault fault old now → CountsCut (Err fault) look old now
reads_failed tool_faults.Reader look old now h = h
reads_failed (tool_faults.Writer n) look old now h = tt
reads_failed tool_faults.Memory look old now h = tt
reads_failed tool_faults.Output look old now h = tt
reads_failed (tool_faults.Refused r) look old now h = tt
reads_failed (tool_faults.Truncated n) look old now h = tt
reads_failed (tool_faults.Limit l) look old now h = tt

-- ---- the end

-- what is so of a status that a good transmission may have, or of none, where the input failed after it, is so of its status
pub good_so : (P : Option Status → Type 0) (wanted : Wanted) (look : Look) (found : Bool) → P (Some statuses.Good) → P (Some statuses.Refused)
    → (look ≡ looks.Failed → P None) → P (good_status wanted look found)
good_so P wanted look true good refused none = refused
good_so P wanted look false good refused none = by wanted.whole look none
  where
    followed : (b : Bool) → P (if b then Some statuses.Refused else Some statuses.Good)
    followed true = refused
    followed false = good

    looked : (l : Look) → (l ≡ looks.Failed → P None) → P (status_after l)
    looked (looks.Found trailing) n = followed (follows trailing)
    looked looks.Failed n = n refl
    looked looks.Unasked n = good

    by : (whole : Bool) (l : Look) → (l ≡ looks.Failed → P None) → P (if whole then status_after l else Some statuses.Good)
    by true l n = looked l n
    by false l n = good

part_cut : (fault : Fault) (old now : ℕ) → IsFaultOfPart old now fault → IsFaultOfCut fault old now
part_cut (faults.Open of reason) old now h = absurd h
part_cut (faults.Read told) old now h = absurd h
part_cut (faults.Write told) old now h = h
part_cut (faults.Output of reason) old now h = h
part_cut (faults.IsInput of) old now h = h
part_cut (faults.IsThere of) old now h = h
part_cut (faults.IsTwice of) old now h = h
part_cut (faults.IsOther of) old now h = h
part_cut (faults.IsLate of) old now h = h
part_cut faults.Memory old now h = h

-- what couldn't be opened, where standard input is there
pub unopened_cut : {I : Type 0} → (name : Option (List ℕ)) (input : I) (fault : Fault) (old now : ℕ)
    → IsUnopenedBy name (Some input) old now fault → FailsToCut (Err (stops.Fault fault)) old now
unopened_cut name input fault old now h =
    by_unopened name (Some input) old now (λ (f : Fault). FailsToCut (Err (stops.Fault f)) old now)
    (λ is gone same. absurd (none-some input (sym gone))) (λ of reason is word counted. one_counted old now counted) fault h

-- the input failed, and the store that took it back counted that
input_counted : (times old on now : ℕ) → HasKeptCount old on → times ≡ one_more_failure 0 → now ≡ counted_on times on → HasCounted old now
input_counted times old on now kept one e =
    kept_then_counted old on now kept (counted_up times on now (omega (arith, one)) (λ lt. omega (arith, e)))

module _ (told : Told) (made : Fault) (times old on now : ℕ) (kept : HasKeptCount old on) (taken : now ≡ counted_on times on)
    (part : IsFaultOfPart old on made) where
  made_fails : (ending : Result Status Stop) → ending ≡ Err (stops.Fault made) → FailsToCut ending old now
  made_fails ending e =
      subst (λ (r : Result Status Stop). FailsToCut r old now) (sym e)
      (part_cut made old now (part_still old on now made part (times_kept times on now taken)))

  read_fails : (ending : Result Status Stop) → ending ≡ Err (stops.Fault (faults.Read told)) → times ≡ one_more_failure 0
      → FailsToCut ending old now
  read_fails ending e one =
      subst (λ (r : Result Status Stop). FailsToCut r old now) (sym e) (input_counted times old on now kept one taken)

  fine : (ending : Result Status Stop) (status : Status) → FailsToCut (Ok status) old now → ending ≡ Ok status → FailsToCut ending old now
  fine ending status h e = subst (λ (r : Result Status Stop). FailsToCut r old now) (sym e) h

  failed_look : (look : Look) → look ≡ looks.Failed → CountsLook look 0 times → times ≡ one_more_failure 0
  failed_look (looks.Found trailing) e h = absurd (cc e)
  failed_look looks.Failed e h = h
  failed_look looks.Unasked e h = absurd (cc e)

  pub cut_fails : (wanted : Wanted) (look : Look) (found : Bool) (outcome : Result SplitReport ToolFault) (ending : Result Status Stop)
      → CountsCut outcome look 0 times → SplitEndsAs told made outcome (good_status wanted look found) ending → FailsToCut ending old now
  cut_fails wanted look found (Ok report) ending reads e =
      good_so (λ (o : Option Status). SplitEndsAs told made (Ok report) o ending → FailsToCut ending old now) wanted look found
      (fine ending statuses.Good tt) (fine ending statuses.Refused tt)
      (λ failed stops. read_fails ending stops (failed_look look failed reads)) e
  cut_fails wanted look found (Err tool_faults.Reader) ending reads e = read_fails ending e reads
  cut_fails wanted look found (Err (tool_faults.Writer n)) ending reads e = made_fails ending e
  cut_fails wanted look found (Err tool_faults.Output) ending reads e = made_fails ending e
  cut_fails wanted look found (Err tool_faults.Memory) ending reads e =
      subst (λ (r : Result Status Stop). FailsToCut r old now) (sym e) tt
  cut_fails wanted look found (Err (tool_faults.Refused r)) ending reads e = fine ending statuses.Refused tt e
  cut_fails wanted look found (Err (tool_faults.Truncated n)) ending reads e = fine ending statuses.Refused tt e
  cut_fails wanted look found (Err (tool_faults.Limit l)) ending reads e = fine ending statuses.Refused tt e
