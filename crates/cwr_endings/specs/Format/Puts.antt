-- How texts are written and handed on, and what is counted where that fails.
use Rattle.std.specs.Prelude.{◌≡◌, ◌<◌, ℕ, List, Option, Result, Ok, Err}
use Rattle.cwr_endings.specs.declared.stops.Stop.{Stop}
use Rattle.std.specs.Io.KnownBytes.{Appends}
use Rattle.cwr_devices.specs.Format.Failures.{CountsFailure, most_failures, one_more_failure}

-- what was put is handed on: where that failed already nothing more is asked for, and else one call more, which may fail
abbrev pub HandsOn : {A B E F : Type 0} → Result A E → Result B F → ℕ → ℕ → Type 0
HandsOn (Ok u) result old new = CountsFailure result old new
HandsOn (Err fault) (Ok u) old new = ⊥
HandsOn (Err fault) (Err stop) old new = new ≡ old

-- the text is written after what the writer had, and handed on; or the writer failed once more
abbrev pub PutsOut : {W A E : Type 0} → (W → Option (List ℕ)) → (W → ℕ) → List ℕ → Result A E → W → W → Type 0
PutsOut contents failures text (Ok u) old new =
    Appends (contents old) (contents new) text × (failures new ≡ failures old) × (failures old < most_failures)
PutsOut contents failures text (Err stop) old new = failures new ≡ one_more_failure (failures old)

-- so it is, but that a text may be left out where there is none
abbrev pub PutsQuiet : {W A E : Type 0} → (W → Option (List ℕ)) → (W → ℕ) → List ℕ → Result A E → W → W → Type 0
PutsQuiet contents failures text (Ok u) old new = Appends (contents old) (contents new) text × (failures new ≡ failures old)
PutsQuiet contents failures text (Err stop) old new = failures new ≡ one_more_failure (failures old)

-- so it is, where memory may be refused before that
abbrev pub PutsSums : {W A : Type 0} → (W → Option (List ℕ)) → (W → ℕ) → List ℕ → Result A Stop → W → W → Type 0
PutsSums contents failures text (Ok u) old new =
    Appends (contents old) (contents new) text × (failures new ≡ failures old) × (failures old < most_failures)
PutsSums contents failures text (Err stop) old new = Unit {0}
