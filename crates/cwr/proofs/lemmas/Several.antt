-- A run over what is named ends as one over each does, and writes what is asked for of one.
use Rattle.std.proofs.Common.{◌≡◌, ◌<◌, ◌≤◌, ℕ, Bool, true, false, List, [], ◌∷◌, length, map, Option, None, Some, Bor, refl, subst, arith}
use Rattle.std.specs.Prelude.{Result, Ok, Err}
use Rattle.cwr_devices.specs.Format.Failures.{most_failures}
use Rattle.cwr_shape.specs.declared.limits.Limits.{Limits}
use Rattle.cwr_files.specs.declared.faults.Fault.TheVariants as faults
use Rattle.cwr_files.specs.declared.inputs.Input.{Input}
use Rattle.cwr_files.specs.Format.Files.{Texts}
use Rattle.cwr_files.specs.Format.Inputs.{shown_name}
use Rattle.cwr_files.specs.Steps.Inputs.{IsLeftOf, remaining_of}
use Rattle.cwr_endings.specs.declared.endings.Status.{Status}
use Rattle.cwr_endings.specs.declared.endings.Wanted.{Wanted}
use Rattle.cwr_endings.specs.declared.stops.Stop.{Stop}
use Rattle.cwr_endings.specs.declared.stops.Stop.TheVariants as stops
use Rattle.cwr_reports.specs.declared.tellings.Asked.{Asked}
use Rattle.cwr_reports.specs.declared.tellings.Telling.{Telling}
use Rattle.cwr_reports.specs.Format.Endings.{EndsOnEach, telling_by}
use Rattle.cwr_reports.specs.Steps.Marked.{TellsEach, TellsQuiet}
use Rattle.cwr.specs.Format.Endings.{EndsOnFiles, EndsOnSeveral}
use Rattle.cwr.specs.Steps.Tells.{TellsFiles, TellsJudged, TellsQuietRead, TellsQuietly, word_of}

pub of_each : (advice : Option (Bool × ℕ)) (limits : Limits) (wanted : Wanted) (held : Option Texts) (standard : Option (List ℕ))
    (names : List (List ℕ)) (ending : Result Status Stop) → EndsOnEach advice limits wanted held standard names ending
    → EndsOnSeveral advice limits wanted held standard names ending
of_each advice limits wanted held standard names (Ok status) ends = ends
of_each advice limits wanted held standard names (Err stops.Output) ends = tt
of_each advice limits wanted held standard names (Err (stops.Fault faults.Memory)) ends = tt
of_each advice limits wanted held standard names (Err (stops.Fault (faults.Open name reason))) ends = absurd ends
of_each advice limits wanted held standard names (Err (stops.Fault (faults.Read told))) ends = absurd ends
of_each advice limits wanted held standard names (Err (stops.Fault (faults.Write told))) ends = absurd ends
of_each advice limits wanted held standard names (Err (stops.Fault (faults.Output name reason))) ends = absurd ends
of_each advice limits wanted held standard names (Err (stops.Fault (faults.IsInput name))) ends = absurd ends
of_each advice limits wanted held standard names (Err (stops.Fault (faults.IsThere name))) ends = absurd ends
of_each advice limits wanted held standard names (Err (stops.Fault (faults.IsTwice name))) ends = absurd ends
of_each advice limits wanted held standard names (Err (stops.Fault (faults.IsOther name))) ends = absurd ends
of_each advice limits wanted held standard names (Err (stops.Fault (faults.IsLate name))) ends = absurd ends

-- so it is of two or more
pub several_end : (advice : Option (Bool × ℕ)) (limits : Limits) (wanted : Wanted) (held : Option Texts) (standard : Option (List ℕ))
    (names : List (Bor (List ℕ))) (ending : Result Status Stop) → 2 ≤ length names
    → EndsOnEach advice limits wanted held standard (map (λ name. name.now) names) ending
    → EndsOnFiles advice limits wanted held standard (map (λ name. name.now) names) ending
several_end advice limits wanted held standard [] ending enough ends = absurd (omega (arith, enough))
several_end advice limits wanted held standard (name ∷ []) ending enough ends = absurd (omega (arith, enough))
several_end advice limits wanted held standard (name ∷ other ∷ names) ending enough ends =
    of_each advice limits wanted held standard (name.now ∷ other.now ∷ map (λ name. name.now) names) ending ends

-- and of none named
pub none_tells : {W : Type 0} → (asked : Asked) (explained quiet : Bool) (held : Option Texts) (standard : Option (List ℕ))
    (names : List (Bor (List ℕ))) (contents : W → Option (List ℕ)) (failures : W → ℕ) (old new : W) (count count_now : ℕ)
    (ending : Result Status Stop) → length names < 1
    → (quiet ≡ false → TellsJudged asked explained held standard None contents old new ending)
    → (quiet ≡ true → failures old < most_failures → TellsQuietly asked explained held standard None contents old new ending)
    → TellsFiles asked explained quiet held standard (map (λ name. name.now) names) contents failures old new count count_now ending
none_tells asked explained false held standard [] contents failures old new count count_now ending none tells quietly = tells refl
none_tells asked explained true held standard [] contents failures old new count count_now ending none tells quietly = quietly refl
none_tells asked explained quiet held standard (name ∷ names) contents failures old new count count_now ending none tells quietly =
    absurd (omega (arith, none))

-- and of one
pub one_tells : {W : Type 0} → (asked : Asked) (explained quiet : Bool) (held : Option Texts) (standard : Option (List ℕ))
    (name : List ℕ) (contents : W → Option (List ℕ)) (failures : W → ℕ) (old new : W) (count count_now : ℕ) (ending : Result Status Stop)
    → (quiet ≡ false → TellsJudged asked explained held standard (Some name) contents old new ending)
    → (quiet ≡ true → failures old < most_failures → TellsQuietly asked explained held standard (Some name) contents old new ending)
    → TellsFiles asked explained quiet held standard (name ∷ []) contents failures old new count count_now ending
one_tells asked explained false held standard name contents failures old new count count_now ending tells quietly = tells refl
one_tells asked explained true held standard name contents failures old new count count_now ending tells quietly = quietly refl

-- and of two or more
pub several_tell : {W : Type 0} → (asked : Asked) (explained quiet : Bool) (held : Option Texts) (standard : Option (List ℕ))
    (names : List (Bor (List ℕ))) (contents : W → Option (List ℕ)) (failures : W → ℕ) (old new : W) (count count_now : ℕ)
    (ending : Result Status Stop) → 2 ≤ length names
    → TellsEach asked explained held standard (map (λ name. name.now) names) contents old new count count_now ending
    → TellsFiles asked explained quiet held standard (map (λ name. name.now) names) contents failures old new count count_now ending
several_tell asked explained quiet held standard [] contents failures old new count count_now ending enough tells =
    absurd (omega (arith, enough))
several_tell asked explained quiet held standard (name ∷ []) contents failures old new count count_now ending enough tells =
    absurd (omega (arith, enough))
several_tell asked explained quiet held standard (name ∷ other ∷ names) contents failures old new count count_now ending enough tells = tells

-- nothing more is said of what stopped
pub stopped_tells : {W : Type 0} → (asked : Asked) (explained quiet : Bool) (held : Option Texts) (standard : Option (List ℕ))
    (names : List (List ℕ)) (contents : W → Option (List ℕ)) (failures : W → ℕ) (old new : W) (count count_now : ℕ) (stop : Stop)
    → TellsFiles asked explained quiet held standard names contents failures old new count count_now (Err stop)
stopped_tells asked explained false held standard [] contents failures old new count count_now stop = tt
stopped_tells asked explained true held standard [] contents failures old new count count_now stop = λ few. tt
stopped_tells asked explained false held standard (name ∷ []) contents failures old new count count_now stop = tt
stopped_tells asked explained true held standard (name ∷ []) contents failures old new count count_now stop = λ few. tt
stopped_tells asked explained quiet held standard (name ∷ other ∷ names) contents failures old new count count_now stop = tt

-- ---- quiet lines

-- on what was opened
pub quiet_read : {W F I P : Type 0} → (asked : Asked) (telling : Telling) (held : Option Texts) (standard name : Option (List ℕ))
    (of_file : F → Option (List ℕ)) (of_standard : I → Option (List ℕ)) (input : Input F I P) (contents : W → Option (List ℕ))
    (old new : W) (ending : Result Status Stop) → IsLeftOf held standard name (remaining_of of_file of_standard input)
    → TellsQuiet asked telling of_file of_standard input contents old new ending
    → TellsQuietRead asked telling held standard name contents old new ending
quiet_read asked telling held standard name of_file of_standard input contents old new (Ok status) left h =
    (remaining_of of_file of_standard input, left, h.0, h.1, h.2)
quiet_read asked telling held standard name of_file of_standard input contents old new (Err stop) left h = tt

-- on what is called so
pub quiet_judged : {W : Type 0} → (asked : Asked) (explained : Bool) (telling : Telling) (held : Option Texts)
    (standard name : Option (List ℕ)) (shown : Bor (List ℕ)) (contents : W → Option (List ℕ)) (old new : W) (ending : Result Status Stop)
    → shown.now ≡ shown_name (word_of name) → telling ≡ telling_by asked explained shown
    → TellsQuietRead asked telling held standard name contents old new ending
    → TellsQuietly asked explained held standard name contents old new ending
quiet_judged asked explained telling held standard name shown contents old new (Ok status) called by h =
    (shown, called, subst (λ (t : Telling). TellsQuietRead asked t held standard name contents old new (Ok status)) by h)
quiet_judged asked explained telling held standard name shown contents old new (Err stop) called by h = tt
