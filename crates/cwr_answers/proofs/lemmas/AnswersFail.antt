-- What failed where a run over acknowledgements, and what they answer, stops.
use Rattle.std.proofs.Common.{◌≡◌, ◌∙◌, ℕ, List, Option, ap, subst, sym}
use Rattle.std.specs.Prelude.{Result, Ok, Err}
use Rattle.cwr_devices.specs.Format.Failures.{one_more_failure}
use Rattle.cwr_decode.specs.declared.readings.ReadFault.{ReadFault}
use Rattle.cwr_decode.specs.declared.readings.ReadFault.TheVariants as read_faults
use Rattle.cwr_decode.specs.Steps.Readings.{CountsFault}
use Rattle.cwr_tools.specs.declared.verdicts.ToolFault.{ToolFault}
use Rattle.cwr_tools.specs.declared.verdicts.ToolFault.TheVariants as tool_faults
use Rattle.cwr_tools.specs.declared.verdicts.Verdict.{Verdict}
use Rattle.cwr_tools.specs.Format.Verdicts.{IsVerdictOf}
use Rattle.cwr_files.specs.declared.faults.Fault.{Fault}
use Rattle.cwr_files.specs.declared.faults.Fault.TheVariants as faults
use Rattle.cwr_files.specs.declared.faults.Name.TheVariants as names
use Rattle.cwr_files.specs.declared.faults.Told.{Told}
use Rattle.cwr_files.specs.Format.Faults.{IfErr}
use Rattle.cwr_files.specs.Format.Files.{HasCounted, counted_on}
use Rattle.cwr_files.specs.Format.Inputs.{IsUnopenedBy}
use Rattle.cwr_files.specs.Steps.NewFiles.{HasKeptCount}
use Rattle.cwr_files.proofs.lemmas.Counts.{kept_then_counted, kept_then_kept, one_counted}
use Rattle.cwr_files.proofs.lemmas.Unopened.{by_unopened}
use Rattle.cwr_endings.specs.declared.endings.Status.{Status}
use Rattle.cwr_endings.specs.declared.judgements.Judgement.{Judgement}
use Rattle.cwr_endings.specs.declared.stops.Stop.{Stop}
use Rattle.cwr_endings.specs.declared.stops.Stop.TheVariants as stops
use Rattle.cwr_reports.specs.Steps.Tellings.{CountsInput, IsStopOf}
use Rattle.cwr_answers.specs.Format.Failures.{FailsOnAnswers, IsFaultOfOne}
use Rattle.cwr_answers.specs.Steps.Reading.{CountsSent, IsMemory, IsUntold}

-- ---- a fault

-- an input that couldn't be opened
pub unopened_one : {I : Type 0} (name : Option (List ℕ)) (standard : Option I) (old now : ℕ) (fault : Fault)
    → IsUnopenedBy name standard old now fault → IsFaultOfOne fault old now
unopened_one name standard old now fault h =
    by_unopened name standard old now (λ (f : Fault). IsFaultOfOne f old now) (λ is gone same. tt)
    (λ of reason is word counted. one_counted old now counted) fault h

-- where others failed before it
one_since : (fault : Fault) (old mid now : ℕ) → HasKeptCount old mid → IsFaultOfOne fault mid now → IsFaultOfOne fault old now
one_since (faults.Open names.StandardInput reason) old mid now k h = tt
one_since (faults.Open names.StandardOutput reason) old mid now k h = kept_then_counted old mid now k h
one_since (faults.Open (names.File name) reason) old mid now k h = kept_then_counted old mid now k h
one_since (faults.Open (names.Part prefix number) reason) old mid now k h = kept_then_counted old mid now k h
one_since (faults.Read told) old mid now k h = kept_then_counted old mid now k h
one_since faults.Memory old mid now k h = tt
one_since (faults.Write told) old mid now k h = absurd h
one_since (faults.Output of reason) old mid now k h = absurd h
one_since (faults.IsInput of) old mid now k h = absurd h
one_since (faults.IsThere of) old mid now k h = absurd h
one_since (faults.IsTwice of) old mid now k h = absurd h
one_since (faults.IsOther of) old mid now k h = absurd h
one_since (faults.IsLate of) old mid now k h = absurd h

-- ---- what was sent

pub sent_since : {A : Type 0} (read : Result A Fault) (fault : Fault) (old mid now : ℕ) → HasKeptCount old mid → read ≡ Err fault
    → CountsSent read mid now → IsFaultOfOne fault old now
sent_since {A} read fault old mid now kept is h =
    one_since fault old mid now kept (subst (λ (r : Result A Fault). CountsSent r mid now) is h)

pub sent_then : {A : Type 0} (read : Result A Fault) (it : A) (old mid now : ℕ) → HasKeptCount old mid → read ≡ Ok it
    → CountsSent read mid now → HasKeptCount old now
sent_then {A} read it old mid now kept is h =
    kept_then_kept old mid now kept (subst (λ (r : Result A Fault). CountsSent r mid now) is h)

-- the reader failed, which the store counted that took it back
pub sent_unread : (fault : ReadFault) (result : Result Verdict ToolFault) (times read on now : ℕ) → IsVerdictOf fault result
    → result ≡ Err tool_faults.Reader → times ≡ 0 → CountsFault fault times read → now ≡ counted_on read on → HasCounted on now
sent_unread read_faults.Reader result times read on now is e none counted taken =
    one_counted on now (taken ∙ ap (λ (n : ℕ). counted_on n on) (counted ∙ ap one_more_failure none))
sent_unread (read_faults.Refused refusal) result times read on now is e none counted taken = absurd (cc (sym is ∙ e))
sent_unread (read_faults.Truncated records) result times read on now is e none counted taken = absurd (cc (sym is ∙ e))
sent_unread read_faults.Memory result times read on now is e none counted taken = absurd (cc (sym is ∙ e))

-- ---- a run

pub unopened_answers : {I : Type 0} (name : Option (List ℕ)) (standard : Option I) (old now : ℕ) (fault : Fault)
    → IsUnopenedBy name standard old now fault → FailsOnAnswers (Err (stops.Fault fault)) old now
unopened_answers name standard old now fault h =
    by_unopened name standard old now (λ (f : Fault). FailsOnAnswers (Err (stops.Fault f)) old now) (λ is gone same. tt)
    (λ of reason is word counted. one_counted old now counted) fault h

-- memory or standard output failed
pub memory_answers : (fault : Fault) (old now : ℕ) → IsMemory fault → FailsOnAnswers (Err (stops.Fault fault)) old now
memory_answers faults.Memory old now h = tt
memory_answers (faults.Open of reason) old now h = absurd h
memory_answers (faults.Read told) old now h = absurd h
memory_answers (faults.Write told) old now h = absurd h
memory_answers (faults.Output of reason) old now h = absurd h
memory_answers (faults.IsInput of) old now h = absurd h
memory_answers (faults.IsThere of) old now h = absurd h
memory_answers (faults.IsTwice of) old now h = absurd h
memory_answers (faults.IsOther of) old now h = absurd h
memory_answers (faults.IsLate of) old now h = absurd h

pub untold_answers : (stop : Stop) (old now : ℕ) → IsUntold stop → FailsOnAnswers (Err stop) old now
untold_answers stops.Output old now h = tt
untold_answers (stops.Fault fault) old now h = memory_answers fault old now h

pub untold_fails : (ending : Result Status Stop) (old now : ℕ) → IfErr ending IsUntold → FailsOnAnswers ending old now
untold_fails (Ok status) old now h = tt
untold_fails (Err stop) old now h = untold_answers stop old now h

-- an input did
pub one_answers : (fault : Fault) (old now : ℕ) → IsFaultOfOne fault old now → FailsOnAnswers (Err (stops.Fault fault)) old now
one_answers (faults.Open of reason) old now h = h
one_answers (faults.Read told) old now h = h
one_answers faults.Memory old now h = h
one_answers (faults.Write told) old now h = h
one_answers (faults.Output of reason) old now h = h
one_answers (faults.IsInput of) old now h = h
one_answers (faults.IsThere of) old now h = h
one_answers (faults.IsTwice of) old now h = tt
one_answers (faults.IsOther of) old now h = h
one_answers (faults.IsLate of) old now h = h

stops_answers : (told : Told) (fault : ToolFault) (stop : Stop) (old now : ℕ) → IsStopOf told fault stop → CountsInput (Err fault) old now
    → FailsOnAnswers (Err stop) old now
stops_answers told tool_faults.Reader stop old now is h =
    subst (λ (s : Stop). FailsOnAnswers (Err s) old now) (sym is) (one_counted old now h)
stops_answers told (tool_faults.Writer n) stop old now is h = subst (λ (s : Stop). FailsOnAnswers (Err s) old now) (sym is) tt
stops_answers told tool_faults.Memory stop old now is h = subst (λ (s : Stop). FailsOnAnswers (Err s) old now) (sym is) tt
stops_answers told (tool_faults.Refused r) stop old now is h = subst (λ (s : Stop). FailsOnAnswers (Err s) old now) (sym is) tt
stops_answers told (tool_faults.Truncated n) stop old now is h = subst (λ (s : Stop). FailsOnAnswers (Err s) old now) (sym is) tt
stops_answers told (tool_faults.Limit l) stop old now is h = subst (λ (s : Stop). FailsOnAnswers (Err s) old now) (sym is) tt
stops_answers told tool_faults.Output stop old now is h = subst (λ (s : Stop). FailsOnAnswers (Err s) old now) (sym is) tt

pub stopped_answers : (judged : Result Judgement ToolFault) (told : Told) (fault : ToolFault) (stop : Stop) (old mid now : ℕ)
    → judged ≡ Err fault → IsStopOf told fault stop → mid ≡ old → CountsInput judged mid now → FailsOnAnswers (Err stop) old now
stopped_answers judged told fault stop old mid now e is opened h =
    stops_answers told fault stop old now is
    (subst (λ (r : Result Judgement ToolFault). CountsInput r old now) e (subst (λ (n : ℕ). CountsInput judged n now) opened h))

fault_since : (fault : Fault) (old mid now : ℕ) → HasKeptCount old mid → FailsOnAnswers (Err (stops.Fault fault)) mid now
    → FailsOnAnswers (Err (stops.Fault fault)) old now
fault_since (faults.Open of reason) old mid now k h = one_since (faults.Open of reason) old mid now k h
fault_since (faults.Read told) old mid now k h = one_since (faults.Read told) old mid now k h
fault_since faults.Memory old mid now k h = tt
fault_since (faults.Write told) old mid now k h = absurd h
fault_since (faults.Output of reason) old mid now k h = absurd h
fault_since (faults.IsInput of) old mid now k h = absurd h
fault_since (faults.IsThere of) old mid now k h = absurd h
fault_since (faults.IsTwice of) old mid now k h = tt
fault_since (faults.IsOther of) old mid now k h = absurd h
fault_since (faults.IsLate of) old mid now k h = absurd h

-- where others failed before it
pub answers_since : (ending : Result Status Stop) (old mid now : ℕ) → HasKeptCount old mid → FailsOnAnswers ending mid now
    → FailsOnAnswers ending old now
answers_since (Ok status) old mid now k h = tt
answers_since (Err stops.Output) old mid now k h = tt
answers_since (Err (stops.Fault fault)) old mid now k h = fault_since fault old mid now k h
