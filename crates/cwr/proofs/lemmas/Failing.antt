-- A run has the status of a fault only where something failed.
use Rattle.std.proofs.Common.{None, ◌≡◌, ◌≢◌, ℕ, ◌<◌, ◌≤◌, Bool, List, [], ◌∷◌, length, map, Option, Some, Bor, refl, sym, subst, arith, inl, inr}
use Rattle.std.specs.Prelude.{IfOk, Result, Ok, Err}
use Rattle.std.specs.List.{AllZip}
use Rattle.cwr_shape.specs.declared.limits.Limits.{Limits}
use Rattle.cwr_words.specs.declared.words.Work.{Work}
use Rattle.cwr_words.specs.declared.words.Work.TheVariants.{Check, Show, Explain, Lint, Advise, Json, Csv, Acks, Summary, Write, Split}
use Rattle.cwr_words.specs.declared.words.Work.TheVariants.{Join, Renumber, Select, Manual}
use Rattle.cwr_files.specs.declared.faults.Fault.{Fault}
use Rattle.cwr_files.specs.declared.faults.Fault.TheVariants as faults
use Rattle.cwr_files.specs.declared.faults.Name.TheVariants as names
use Rattle.cwr_files.specs.Format.Files.{Texts}
use Rattle.cwr_files.specs.Steps.NewFiles.{HasKeptCount}
use Rattle.cwr_files.proofs.lemmas.Counts.{counted_kept, counted_then_kept, kept_then_counted, kept_then_kept, one_counted, same_count}
use Rattle.cwr_endings.specs.declared.endings.Look.{Look}
use Rattle.cwr_endings.specs.declared.endings.Look.TheVariants as looks
use Rattle.cwr_endings.specs.declared.endings.Status.{Status}
use Rattle.cwr_endings.specs.declared.endings.Status.TheVariants as statuses
use Rattle.cwr_endings.specs.declared.endings.Wanted.{Wanted}
use Rattle.cwr_endings.specs.declared.judgements.Judgement.{Judgement}
use Rattle.cwr_endings.specs.declared.stops.Stop.{Stop}
use Rattle.cwr_endings.specs.declared.stops.Stop.TheVariants as stops
use Rattle.cwr_endings.specs.Format.Endings.{worse_status}
use Rattle.cwr_endings.specs.Steps.Looks.{CountsLook}
use Rattle.cwr_reports.specs.declared.tellings.Asked.{Asked}
use Rattle.cwr_reports.specs.Format.Endings.{EndsOnEach, EndsOnInput}
use Rattle.cwr_reports.specs.Steps.Looks.{IsJudged, IsRead}
use Rattle.cwr_reports.specs.Steps.Marked.{CountsEnd, CountsEnds, CountsOutput, HasStatus, IsPiece, IsUnopened, Piece, TellsEach, status_in, worst_from}
use Rattle.cwr_reports.specs.Steps.Tellings.{CountsStop}
use Rattle.cwr_endings.specs.Format.Failures.{FailsOut, FailsSo}
use Rattle.cwr_answers.specs.Format.Failures.{IsFaultOfOne}
use Rattle.cwr.specs.Format.Failures.{FailsEach, FailsOnFiles, FailsWork, OfOne}

-- ---- a look at what follows

looked_fails : (look : Look) (old now : ℕ) → CountsLook look old now → HasKeptCount old now
looked_fails (looks.Found trailing) old now h = same_count old now h
looked_fails looks.Failed old now h = counted_kept old now (one_counted old now h)
looked_fails looks.Unasked old now h = same_count old now h

-- ---- a fault that is counted

-- it is, where others fail before it
fault_then : (fault : Fault) (old mid now : ℕ) → HasKeptCount old mid → IsFaultOfOne fault mid now → IsFaultOfOne fault old now
fault_then (faults.Open names.StandardInput reason) old mid now h k = tt
fault_then (faults.Open names.StandardOutput reason) old mid now h k = kept_then_counted old mid now h k
fault_then (faults.Open (names.File name) reason) old mid now h k = kept_then_counted old mid now h k
fault_then (faults.Open (names.Part prefix number) reason) old mid now h k = kept_then_counted old mid now h k
fault_then (faults.Read told) old mid now h k = kept_then_counted old mid now h k
fault_then faults.Memory old mid now h k = tt
fault_then (faults.Write told) old mid now h k = absurd k
fault_then (faults.Output of reason) old mid now h k = absurd k
fault_then (faults.IsInput of) old mid now h k = absurd k
fault_then (faults.IsThere of) old mid now h k = absurd k
fault_then (faults.IsTwice of) old mid now h k = absurd k
fault_then (faults.IsOther of) old mid now h k = absurd k
fault_then (faults.IsLate of) old mid now h k = absurd k

-- and where others fail after it
then_fault : (fault : Fault) (old mid now : ℕ) → IsFaultOfOne fault old mid → HasKeptCount mid now → IsFaultOfOne fault old now
then_fault (faults.Open names.StandardInput reason) old mid now k h = tt
then_fault (faults.Open names.StandardOutput reason) old mid now k h = counted_then_kept old mid now k h
then_fault (faults.Open (names.File name) reason) old mid now k h = counted_then_kept old mid now k h
then_fault (faults.Open (names.Part prefix number) reason) old mid now k h = counted_then_kept old mid now k h
then_fault (faults.Read told) old mid now k h = counted_then_kept old mid now k h
then_fault faults.Memory old mid now k h = tt
then_fault (faults.Write told) old mid now k h = absurd k
then_fault (faults.Output of reason) old mid now k h = absurd k
then_fault (faults.IsInput of) old mid now k h = absurd k
then_fault (faults.IsThere of) old mid now k h = absurd k
then_fault (faults.IsTwice of) old mid now k h = absurd k
then_fault (faults.IsOther of) old mid now k h = absurd k
then_fault (faults.IsLate of) old mid now k h = absurd k

-- of one file
end_fault : (fault : Fault) (old now : ℕ) → CountsEnd (Err fault) old now → IsFaultOfOne fault old now
end_fault (faults.Open names.StandardInput reason) old now h = tt
end_fault (faults.Open names.StandardOutput reason) old now h = one_counted old now h
end_fault (faults.Open (names.File name) reason) old now h = one_counted old now h
end_fault (faults.Open (names.Part prefix number) reason) old now h = one_counted old now h
end_fault (faults.Read told) old now h = one_counted old now h
end_fault faults.Memory old now h = tt
end_fault (faults.Write told) old now h = absurd h
end_fault (faults.Output of reason) old now h = absurd h
end_fault (faults.IsInput of) old now h = absurd h
end_fault (faults.IsThere of) old now h = absurd h
end_fault (faults.IsTwice of) old now h = absurd h
end_fault (faults.IsOther of) old now h = absurd h
end_fault (faults.IsLate of) old now h = absurd h

end_fails : (end : Result Judgement Fault) (old now : ℕ) → CountsEnd end old now → HasKeptCount old now
end_fails (Ok judgement) old now h = looked_fails judgement.look old now h
end_fails (Err (faults.Open names.StandardInput reason)) old now h = same_count old now h
end_fails (Err (faults.Open names.StandardOutput reason)) old now h = counted_kept old now (one_counted old now h)
end_fails (Err (faults.Open (names.File name) reason)) old now h = counted_kept old now (one_counted old now h)
end_fails (Err (faults.Open (names.Part prefix number) reason)) old now h = counted_kept old now (one_counted old now h)
end_fails (Err (faults.Read told)) old now h = counted_kept old now (one_counted old now h)
end_fails (Err faults.Memory) old now h = same_count old now h
end_fails (Err (faults.Write told)) old now h = absurd h
end_fails (Err (faults.Output of reason)) old now h = absurd h
end_fails (Err (faults.IsInput of)) old now h = absurd h
end_fails (Err (faults.IsThere of)) old now h = absurd h
end_fails (Err (faults.IsTwice of)) old now h = absurd h
end_fails (Err (faults.IsOther of)) old now h = absurd h
end_fails (Err (faults.IsLate of)) old now h = absurd h

pub ends_fail : (pieces : List Piece) (old now : ℕ) → CountsEnds pieces old now → HasKeptCount old now
ends_fail [] old now h = same_count old now h
ends_fail (piece ∷ pieces) old now h =
    kept_then_kept old h.0 now (end_fails piece.end old h.0 h.1) (ends_fail pieces h.0 now h.2)

-- ---- of several files

-- no file that could be read makes the status that of a fault
no_worse : (status other : Status) → status ≢ statuses.Fault → IsRead other → worse_status status other ≢ statuses.Fault
no_worse statuses.Fault other not read = λ e. not refl
no_worse statuses.CommandLine statuses.Fault not read = absurd read
no_worse statuses.CommandLine statuses.CommandLine not read = absurd read
no_worse statuses.CommandLine statuses.Refused not read = not
no_worse statuses.CommandLine statuses.Good not read = not
no_worse statuses.Refused statuses.Fault not read = absurd read
no_worse statuses.Refused statuses.CommandLine not read = absurd read
no_worse statuses.Refused statuses.Refused not read = not
no_worse statuses.Refused statuses.Good not read = not
no_worse statuses.Good statuses.Fault not read = absurd read
no_worse statuses.Good statuses.CommandLine not read = absurd read
no_worse statuses.Good statuses.Refused not read = λ e. cc e
no_worse statuses.Good statuses.Good not read = not

-- a file failed, or one after it
pub next_failed : (end : Result Judgement Fault) (status : Status) (old mid now : ℕ) → CountsEnd end old mid → HasKeptCount mid now
    → status ≢ statuses.Fault → IfOk end IsJudged
    → (worse_status status (status_in end) ≢ statuses.Fault → (fault : Fault) × IsFaultOfOne fault mid now)
    → (fault : Fault) × IsFaultOfOne fault old now
next_failed (Err fault) status old mid now counted after not read later =
    (fault, then_fault fault old mid now (end_fault fault old mid counted) after)
next_failed (Ok judgement) status old mid now counted after not read later =
    let it = later (no_worse status judgement.status not read) in
    (it.0, fault_then it.0 old mid now (looked_fails judgement.look old mid counted) it.1)

unopened_read : (end : Result Judgement Fault) → IsUnopened end → IfOk end IsJudged
unopened_read (Ok judgement) h = absurd h
unopened_read (Err fault) h = tt

status_read : (asked : Asked) (left : Option (List ℕ)) (end : Result Judgement Fault) → HasStatus asked left end → IfOk end IsJudged
status_read asked left (Ok judgement) h = h.0
status_read asked left (Err fault) h = tt

module _ (asked : Asked) (explained : Bool) (held : Option Texts) (standard : Option (List ℕ)) where
  piece_read : (name : List ℕ) (piece : Piece) → IsPiece asked explained held standard name piece → IfOk piece.end IsJudged
  piece_read name piece h =
      elim h [
        | inl unopened ↦ unopened_read piece.end unopened.0
        | inr on ↦ status_read asked on.0 piece.end on.2
      ]

  one_failed : (names : List (List ℕ)) (pieces : List Piece) (status : Status) (old now : ℕ)
      → AllZip (IsPiece asked explained held standard) names pieces → CountsEnds pieces old now → status ≢ statuses.Fault
      → worst_from status pieces ≡ statuses.Fault → (fault : Fault) × IsFaultOfOne fault old now
  one_failed names [] status old now each counted not e = absurd (not e)
  one_failed [] (piece ∷ pieces) status old now each counted not e = absurd each
  one_failed (name ∷ names) (piece ∷ pieces) status old now each counted not e =
      next_failed piece.end status old counted.0 now counted.1 (ends_fail pieces counted.0 now counted.2) not (piece_read name piece each.0)
      (λ still. one_failed names pieces (worse_status status (status_in piece.end)) counted.0 now each.1 counted.2 still e)

  pub several_failed : {W : Type 0} (advice : Option (Bool × ℕ)) (limits : Limits) (wanted : Wanted) (names : List (List ℕ))
      (contents : W → Option (List ℕ)) (old new : W) (failures now : ℕ) (ending : Result Status Stop)
      → EndsOnEach advice limits wanted held standard names ending
      → TellsEach asked explained held standard names contents old new failures now ending → FailsEach ending failures now
  several_failed advice limits wanted names contents old new failures now (Ok statuses.Good) ends h = tt
  several_failed advice limits wanted names contents old new failures now (Ok statuses.Refused) ends h = tt
  several_failed advice limits wanted names contents old new failures now (Ok statuses.CommandLine) ends h = tt
  several_failed advice limits wanted names contents old new failures now (Ok statuses.Fault) ends h =
      one_failed names h.0 statuses.Good failures now h.1 h.3 (λ e. cc e) (sym h.4)
  several_failed advice limits wanted names contents old new failures now (Err stops.Output) ends h = tt
  several_failed advice limits wanted names contents old new failures now (Err (stops.Fault faults.Memory)) ends h = tt
  several_failed advice limits wanted names contents old new failures now (Err (stops.Fault (faults.Open of reason))) ends h = absurd ends
  several_failed advice limits wanted names contents old new failures now (Err (stops.Fault (faults.Read told))) ends h = absurd ends
  several_failed advice limits wanted names contents old new failures now (Err (stops.Fault (faults.Write told))) ends h = absurd ends
  several_failed advice limits wanted names contents old new failures now (Err (stops.Fault (faults.Output of reason))) ends h = absurd ends
  several_failed advice limits wanted names contents old new failures now (Err (stops.Fault (faults.IsInput of))) ends h = absurd ends
  several_failed advice limits wanted names contents old new failures now (Err (stops.Fault (faults.IsThere of))) ends h = absurd ends
  several_failed advice limits wanted names contents old new failures now (Err (stops.Fault (faults.IsTwice of))) ends h = absurd ends
  several_failed advice limits wanted names contents old new failures now (Err (stops.Fault (faults.IsOther of))) ends h = absurd ends
  several_failed advice limits wanted names contents old new failures now (Err (stops.Fault (faults.IsLate of))) ends h = absurd ends

-- ---- one input

stopped_fails : (advice : Option (Bool × ℕ)) (limits : Limits) (wanted : Wanted) (left : Option (List ℕ)) (ending : Result Status Stop)
    (old now out out_now : ℕ) → IfOk ending IsRead → EndsOnInput advice limits wanted left ending → CountsStop ending old now out out_now
    → FailsSo ending old now
stopped_fails advice limits wanted left (Ok statuses.Good) old now out out_now read ends h = tt
stopped_fails advice limits wanted left (Ok statuses.Refused) old now out out_now read ends h = tt
stopped_fails advice limits wanted left (Ok statuses.CommandLine) old now out out_now read ends h = tt
stopped_fails advice limits wanted left (Ok statuses.Fault) old now out out_now read ends h = absurd read
stopped_fails advice limits wanted left (Err stops.Output) old now out out_now read ends h = tt
stopped_fails advice limits wanted left (Err (stops.Fault (faults.Read told))) old now out out_now read ends h = one_counted old now h.0
stopped_fails advice limits wanted left (Err (stops.Fault faults.Memory)) old now out out_now read ends h = tt
stopped_fails advice limits wanted left (Err (stops.Fault (faults.Open of reason))) old now out out_now read ends h = absurd ends
stopped_fails advice limits wanted left (Err (stops.Fault (faults.Write told))) old now out out_now read ends h = absurd ends
stopped_fails advice limits wanted left (Err (stops.Fault (faults.Output of reason))) old now out out_now read ends h = absurd ends
stopped_fails advice limits wanted left (Err (stops.Fault (faults.IsInput of))) old now out out_now read ends h = absurd ends
stopped_fails advice limits wanted left (Err (stops.Fault (faults.IsThere of))) old now out out_now read ends h = absurd ends
stopped_fails advice limits wanted left (Err (stops.Fault (faults.IsTwice of))) old now out out_now read ends h = absurd ends
stopped_fails advice limits wanted left (Err (stops.Fault (faults.IsOther of))) old now out out_now read ends h = absurd ends
stopped_fails advice limits wanted left (Err (stops.Fault (faults.IsLate of))) old now out out_now read ends h = absurd ends

-- what was read
pub alone_fails : (advice : Option (Bool × ℕ)) (limits : Limits) (wanted : Wanted) (left : Option (List ℕ)) (ending : Result Status Stop)
    (old mid now out out_now : ℕ) → mid ≡ old → IfOk ending IsRead → EndsOnInput advice limits wanted left ending
    → CountsStop ending mid now out out_now → FailsSo ending old now
alone_fails advice limits wanted left ending old mid now out out_now same read ends h =
    stopped_fails advice limits wanted left ending old now out out_now read ends
    (subst (λ (n : ℕ). CountsStop ending n now out out_now) same h)

-- standard output
pub output_counted : (advice : Option (Bool × ℕ)) (limits : Limits) (wanted : Wanted) (left : Option (List ℕ)) (ending : Result Status Stop)
    (old now out out_now : ℕ) → EndsOnInput advice limits wanted left ending → CountsStop ending old now out out_now
    → CountsOutput ending out out_now
output_counted advice limits wanted left (Ok status) old now out out_now ends h = h
output_counted advice limits wanted left (Err stops.Output) old now out out_now ends h = h
output_counted advice limits wanted left (Err (stops.Fault (faults.Read told))) old now out out_now ends h = h.1
output_counted advice limits wanted left (Err (stops.Fault faults.Memory)) old now out out_now ends h = h.1
output_counted advice limits wanted left (Err (stops.Fault (faults.Open of reason))) old now out out_now ends h = absurd ends
output_counted advice limits wanted left (Err (stops.Fault (faults.Write told))) old now out out_now ends h = absurd ends
output_counted advice limits wanted left (Err (stops.Fault (faults.Output of reason))) old now out out_now ends h = absurd ends
output_counted advice limits wanted left (Err (stops.Fault (faults.IsInput of))) old now out out_now ends h = absurd ends
output_counted advice limits wanted left (Err (stops.Fault (faults.IsThere of))) old now out out_now ends h = absurd ends
output_counted advice limits wanted left (Err (stops.Fault (faults.IsTwice of))) old now out out_now ends h = absurd ends
output_counted advice limits wanted left (Err (stops.Fault (faults.IsOther of))) old now out out_now ends h = absurd ends
output_counted advice limits wanted left (Err (stops.Fault (faults.IsLate of))) old now out out_now ends h = absurd ends

-- ---- what is named

-- nothing
pub none_fails : (names : List (Bor (List ℕ))) (ending : Result Status Stop) (old now : ℕ) → length names < 1 → FailsSo ending old now
    → FailsOnFiles (map (λ name. name.now) names) ending old now
none_fails [] ending old now none h = h
none_fails (name ∷ names) ending old now none h = absurd (omega (arith, none))

-- several
pub each_fails : (names : List (Bor (List ℕ))) (ending : Result Status Stop) (old now : ℕ) → 2 ≤ length names → FailsEach ending old now
    → FailsOnFiles (map (λ name. name.now) names) ending old now
each_fails [] ending old now enough h = absurd (omega (arith, enough))
each_fails (name ∷ []) ending old now enough h = absurd (omega (arith, enough))
each_fails (name ∷ other ∷ names) ending old now enough h = h

-- ---- no memory to begin

out_unbegun : (out : Option (Bor (List ℕ))) (making : Option (List ℕ)) (held after : Option Texts) (old now : ℕ)
    → FailsOut out making held after (Err (stops.Fault faults.Memory)) old now
out_unbegun None making held after old now = tt
out_unbegun (Some out) making held after old now = tt

files_unbegun : (them : List (List ℕ)) (old now : ℕ) → FailsOnFiles them (Err (stops.Fault faults.Memory)) old now
files_unbegun [] old now = tt
files_unbegun (name ∷ []) old now = tt
files_unbegun (name ∷ other ∷ more) old now = tt

answers_unbegun : (them sent : List (List ℕ)) (old now : ℕ) → OfOne them sent (λ name. FailsSo (Err (stops.Fault faults.Memory)) old now)
answers_unbegun [] [] old now = tt
answers_unbegun (name ∷ []) [] old now = tt
answers_unbegun (name ∷ other ∷ more) [] old now = tt
answers_unbegun [] (one ∷ sent) old now = tt
answers_unbegun (name ∷ []) (one ∷ sent) old now = tt
answers_unbegun (name ∷ other ∷ more) (one ∷ sent) old now = tt

pub unbegun_fails : (work : Work) (making : Option (List ℕ)) (held after : Option Texts) (old now : ℕ)
    → FailsWork work making held after (Err (stops.Fault faults.Memory)) old now
unbegun_fails (Check judging) making held after old now = files_unbegun (map (λ name. name.now) judging.files.items) old now
unbegun_fails (Explain judging) making held after old now = files_unbegun (map (λ name. name.now) judging.files.items) old now
unbegun_fails (Show words) making held after old now = tt
unbegun_fails (Lint words) making held after old now = files_unbegun (map (λ name. name.now) words.files.items) old now
unbegun_fails (Advise words) making held after old now = files_unbegun (map (λ name. name.now) words.judging.files.items) old now
unbegun_fails (Json words) making held after old now = out_unbegun words.out making held after old now
unbegun_fails (Csv words) making held after old now = out_unbegun words.out making held after old now
unbegun_fails (Acks words) making held after old now =
    (answers_unbegun (map (λ name. name.now) words.files.items) (map (λ name. name.now) words.sent.items) old now, tt)
unbegun_fails (Summary words) making held after old now = tt
unbegun_fails (Write words) making held after old now = out_unbegun words.out making held after old now
unbegun_fails (Split words) making held after old now = λ quiet known. tt
unbegun_fails (Join words) making held after old now = tt
unbegun_fails (Renumber words) making held after old now = out_unbegun words.out making held after old now
unbegun_fails (Select words) making held after old now = tt
unbegun_fails Manual making held after old now = tt
