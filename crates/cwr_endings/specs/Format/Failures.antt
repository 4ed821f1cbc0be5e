-- What failed where a run ends as one that did.
use denote.Ref.{Bor}
use Rattle.std.specs.Prelude.{◌≡◌, ◌⊎◌, ℕ, List, [], Option, None, Some, Result, Ok, Err}
use Rattle.cwr_files.specs.declared.faults.Fault.{Fault}
use Rattle.cwr_files.specs.declared.faults.Fault.TheVariants as faults
use Rattle.cwr_files.specs.declared.faults.Name.TheVariants.{File, StandardInput}
use Rattle.cwr_files.specs.Format.Files.{HasCounted, Texts}
use Rattle.cwr_files.specs.Format.NewFiles.{AllTaken}
use Rattle.cwr_endings.specs.declared.endings.Status.{Status}
use Rattle.cwr_endings.specs.declared.endings.Status.TheVariants as statuses
use Rattle.cwr_endings.specs.declared.stops.Stop.{Stop}
use Rattle.cwr_endings.specs.declared.stops.Stop.TheVariants as stops

-- ---- a run that writes to standard output

-- what was to be read couldn't be opened, or it failed, which is counted; or there was no memory
abbrev pub IsFaultOfRead : Fault → ℕ → ℕ → Type 0
IsFaultOfRead (faults.Open StandardInput reason) old now = ⊥
IsFaultOfRead (faults.Open of reason) old now = HasCounted old now
IsFaultOfRead (faults.Read told) old now = HasCounted old now
IsFaultOfRead faults.Memory old now = Unit {0}
IsFaultOfRead fault old now = ⊥

-- So it is where a run over one input ends as what failed does, where so many failures were counted before it and after it. Of standard output
-- nothing is said here.
abbrev pub FailsSo : Result Status Stop → ℕ → ℕ → Type 0
FailsSo (Ok statuses.Fault) old now = ⊥
FailsSo (Ok status) old now = Unit {0}
FailsSo (Err stops.Output) old now = Unit {0}
FailsSo (Err (stops.Fault fault)) old now = IsFaultOfRead fault old now

-- ---- a run that writes a file

-- no file of that name can be made: the name is empty, or something has each of the names that the file may have while it isn't whole
abbrev pub CanNotBeMade : List ℕ → Option (List ℕ) → Option Texts → Option Texts → Type 0
CanNotBeMade out making held after = (out ≡ []) ⊎ AllTaken out making held after

-- An input failed, or the file of that name did, which is counted; or no such file can be made, or it may not be written, or there was no memory.
abbrev pub IsFaultOfOut : Bor (List ℕ) → Option (List ℕ) → Option Texts → Option Texts → Fault → ℕ → ℕ → Type 0
IsFaultOfOut out making held after (faults.Open StandardInput reason) old now = ⊥
IsFaultOfOut out making held after (faults.Open of reason) old now =
    HasCounted old now ⊎ ((of ≡ File out) × CanNotBeMade out.now making held after)
IsFaultOfOut out making held after (faults.Read told) old now = HasCounted old now
IsFaultOfOut out making held after (faults.Write told) old now = HasCounted old now
IsFaultOfOut out making held after (faults.Output of None) old now = ⊥
IsFaultOfOut out making held after (faults.Output of (Some reason)) old now = (of ≡ File out) × HasCounted old now
IsFaultOfOut out making held after fault old now = Unit {0}

-- So it is where a run ends as what failed does that writes the file of that name.
abbrev pub FailsToWrite : Bor (List ℕ) → Option (List ℕ) → Option Texts → Option Texts → Result Status Stop → ℕ → ℕ → Type 0
FailsToWrite out making held after (Ok statuses.Fault) old now = ⊥
FailsToWrite out making held after (Ok status) old now = Unit {0}
FailsToWrite out making held after (Err stops.Output) old now = Unit {0}
FailsToWrite out making held after (Err (stops.Fault fault)) old now = IsFaultOfOut out making held after fault old now

-- so it is where a file is named
abbrev pub FailsOut : Option (Bor (List ℕ)) → Option (List ℕ) → Option Texts → Option Texts → Result Status Stop → ℕ → ℕ → Type 0
FailsOut None making held after ending old now = FailsSo ending old now
FailsOut (Some out) making held after ending old now = FailsToWrite out making held after ending old now

-- ---- a run that joins several inputs to a file

-- so it is of one of its faults, where standard input, which is there once, may have been read already
abbrev pub IsFaultOfUnion : Bor (List ℕ) → Option (List ℕ) → Option Texts → Option Texts → Fault → ℕ → ℕ → Type 0
IsFaultOfUnion out making held after (faults.Open StandardInput reason) old now = Unit {0}
IsFaultOfUnion out making held after fault old now = IsFaultOfOut out making held after fault old now

abbrev pub FailsToJoin : Bor (List ℕ) → Option (List ℕ) → Option Texts → Option Texts → Result Status Stop → ℕ → ℕ → Type 0
FailsToJoin out making held after (Err (stops.Fault fault)) old now = IsFaultOfUnion out making held after fault old now
FailsToJoin out making held after ending old now = FailsToWrite out making held after ending old now
