-- Which faults are answered of a file that is written, and what it is called there.
use Rattle.std.specs.Prelude.{◌≡◌, ◌⊎◌, ℕ, List, [], Option, None, Some, IsSome, Result, Ok, Err}
use Rattle.std.specs.declared.io.ErrorKind.TheVariants.{AlreadyExists, OutOfMemory}
use Rattle.cwr_files.specs.Format.Files.{HasCounted, Texts}
use Rattle.cwr_files.specs.Format.NewFiles.{AllTaken}
use Rattle.cwr_files.specs.declared.faults.Fault.{Fault}
use Rattle.cwr_files.specs.declared.faults.Fault.TheVariants as faults
use Rattle.cwr_files.specs.declared.faults.Name.{Name}
use Rattle.cwr_files.specs.declared.faults.Reason.{Reason}

-- where the call failed, this is so of its fault
abbrev pub IfErr : {X E : Type 0} → Result X E → (E → Type 0) → Type 0
IfErr (Ok x) is = Unit {0}
IfErr (Err fault) is = is fault

-- the file of that name couldn't be opened, and the system said why, or there was no memory
abbrev pub IsUnmade : Name → Fault → Type 0
IsUnmade name (faults.Open of reason) = (of ≡ name) × IsSome reason
IsUnmade name faults.Memory = Unit {0}
IsUnmade name fault = ⊥

-- the file couldn't be given its name, and the system said why
abbrev pub IsUnkept : Name → Fault → Type 0
IsUnkept name (faults.Output of reason) = (of ≡ name) × IsSome reason
IsUnkept name fault = ⊥

-- the file couldn't be made or finished
abbrev pub IsOfOutput : Name → Fault → Type 0
IsOfOutput name (faults.Output of reason) = of ≡ name
IsOfOutput name fault = ⊥

-- ---- why files aren't made

-- there was no memory
abbrev pub IsOfMemory : Reason → Type 0
IsOfMemory reason = reason.kind ≡ OutOfMemory

-- the reason is that something has each of the names that the file may have while it isn't whole
abbrev pub IsOfTaken : Reason → Type 0
IsOfTaken reason = reason.kind ≡ AlreadyExists

-- The file of that name couldn't be made: a call failed, which is counted, or something has each of the names that it may have while it isn't
-- whole.
abbrev pub IsUncreated : List ℕ → Option (List ℕ) → Option Texts → Option Texts → ℕ → ℕ → Type 0
IsUncreated name making held now old failures = HasCounted old failures ⊎ AllTaken name making held now

-- so it is by that reason, or there was no memory
abbrev pub IsUncreatedBy : List ℕ → Option (List ℕ) → Option Texts → Option Texts → ℕ → ℕ → Reason → Type 0
IsUncreatedBy name making held now old failures reason =
    IsOfMemory reason ⊎ (HasCounted old failures ⊎ (IsOfTaken reason × AllTaken name making held now))

-- the words give that name to what is written: it is empty, or so it is; or there was no memory
abbrev pub IsUnmadeBy : List ℕ → Option (List ℕ) → Option Texts → Option Texts → ℕ → ℕ → Fault → Type 0
IsUnmadeBy out making held now old failures (faults.Open of reason) = (out ≡ []) ⊎ IsUncreated out making held now old failures
IsUnmadeBy out making held now old failures faults.Memory = Unit {0}
IsUnmadeBy out making held now old failures fault = ⊥

-- The next part of a split couldn't be made, finished or written: a call failed, which is counted, but where something has each of the names that
-- the part may have while it isn't whole, or no number is left; or there was no memory, or the part may not be written.
abbrev pub IsFaultOfPart : ℕ → ℕ → Fault → Type 0
IsFaultOfPart old failures (faults.Open of reason) = ⊥
IsFaultOfPart old failures (faults.Read told) = ⊥
IsFaultOfPart old failures (faults.Write told) = HasCounted old failures
IsFaultOfPart old failures (faults.Output of None) = Unit {0}
IsFaultOfPart old failures (faults.Output of (Some reason)) = (IsOfTaken reason → ⊥) → HasCounted old failures
IsFaultOfPart old failures (faults.IsInput of) = Unit {0}
IsFaultOfPart old failures (faults.IsThere of) = Unit {0}
IsFaultOfPart old failures (faults.IsTwice of) = ⊥
IsFaultOfPart old failures (faults.IsOther of) = ⊥
IsFaultOfPart old failures (faults.IsLate of) = Unit {0}
IsFaultOfPart old failures faults.Memory = Unit {0}
