-- How several files are judged, one after another.
use Rattle.std.specs.Prelude.{◌≡◌, ◌⊎◌, ℕ, Bool, true, false, List, Option, Some, None, Result, Ok, Err}
use Rattle.cwr_shape.specs.declared.limits.Limits.{Limits}
use Rattle.cwr_files.specs.declared.faults.Fault.TheVariants as faults
use Rattle.cwr_files.specs.Format.Files.{Texts}
use Rattle.cwr_files.specs.Format.Inputs.{IfHeld, is_standard}
use Rattle.cwr_endings.specs.declared.endings.Status.{Status}
use Rattle.cwr_endings.specs.declared.endings.Status.TheVariants as statuses
use Rattle.cwr_endings.specs.declared.endings.Wanted.{Wanted}
use Rattle.cwr_endings.specs.declared.stops.Stop.{Stop}
use Rattle.cwr_endings.specs.declared.stops.Stop.TheVariants as stops
use Rattle.cwr_endings.specs.Format.Endings.{IsStatusBy, worse_status}
use Rattle.std.specs.Prelude.{IfSome, IsSome}
use Rattle.cwr_files.specs.Steps.Inputs.{standard_left}
use Rattle.cwr_reports.specs.Format.Endings.{Counts}

-- standard input, which is there once, is so
abbrev pub IfStandard : {I : Type 0} → (I → Option (List ℕ)) → Option I → (List ℕ → Type 0) → Type 0
IfStandard of_standard None is = ⊥
IfStandard of_standard (Some input) is = IfSome (of_standard input) is

-- so is what a word names
abbrev pub IfNextAt : {I : Type 0} → Bool → Option Texts → (I → Option (List ℕ)) → Option I → List ℕ → (List ℕ → Type 0) → Type 0
IfNextAt true held of_standard standard name is = IfStandard of_standard standard is
IfNextAt false held of_standard standard name is = IfHeld held name is

-- the status on what the word names was counted among the others, or it couldn't be read
abbrev pub IsNext : {I : Type 0} → Option (Bool × ℕ) → Limits → Wanted → Option Texts → (I → Option (List ℕ)) → Option I → List ℕ
    → Status → Status → Type 0
IsNext advice limits wanted held of_standard standard name before now =
    ((status : Status) × (now ≡ worse_status before status)
    × IfNextAt (is_standard (Some name)) held of_standard standard name (λ text. IsStatusBy (Counts advice) limits wanted text status))
    ⊎ (now ≡ statuses.Fault)

-- so it is, unless standard output or memory failed
abbrev pub CountsNext : {I : Type 0} → Option (Bool × ℕ) → Limits → Wanted → Option Texts → (I → Option (List ℕ)) → Option I → List ℕ
    → Status → Status → Result (Unit {0}) Stop → Type 0
CountsNext advice limits wanted held of_standard standard name before now (Ok u) =
    IsNext advice limits wanted held of_standard standard name before now
CountsNext advice limits wanted held of_standard standard name before now (Err stops.Output) = Unit {0}
CountsNext advice limits wanted held of_standard standard name before now (Err (stops.Fault faults.Memory)) = Unit {0}
CountsNext advice limits wanted held of_standard standard name before now (Err (stops.Fault fault)) = ⊥

-- where standard input is still there, this is what it has
abbrev pub IsFirst : {I : Type 0} → (I → Option (List ℕ)) → Option I → Option (List ℕ) → Type 0
IsFirst of_standard standard first = IsSome standard → standard_left of_standard standard ≡ first

-- the sums weren't written: standard output failed, or there was no memory
abbrev pub IsUnsummed : Stop → Type 0
IsUnsummed stops.Output = Unit {0}
IsUnsummed (stops.Fault faults.Memory) = Unit {0}
IsUnsummed (stops.Fault fault) = ⊥
