-- What the end of a run over an input means for the program.
use denote.Ref.{Bor}
use Rattle.std.specs.Prelude.{◌⊎◌, List, All, Any, ℕ, Bool, if◌then◌else◌, Option, Some, None, IfSome, Result, Ok, Err}
use Rattle.cwr_shape.specs.declared.limits.Limits.{Limits}
use Rattle.cwr_shape.specs.declared.reasons.Level.{Level}
use Rattle.cwr_values.specs.declared.items.Item.{Item}
use Rattle.cwr_advise.specs.Format.AdviceLevels.{TellsFrom}
use Rattle.cwr_advise.specs.Format.AdviceLines.{lines_of_advice}
use Rattle.cwr_files.specs.declared.faults.Fault.TheVariants as faults
use Rattle.cwr_files.specs.Format.Files.{Texts}
use Rattle.cwr_files.specs.Format.Inputs.{IfRead}
use Rattle.cwr_endings.specs.declared.endings.Status.{Status}
use Rattle.cwr_endings.specs.declared.endings.Status.TheVariants as statuses
use Rattle.cwr_endings.specs.declared.stops.Stop.{Stop}
use Rattle.cwr_endings.specs.declared.stops.Stop.TheVariants as stops
use Rattle.cwr_endings.specs.declared.endings.Wanted.{Wanted}
use Rattle.cwr_endings.specs.Format.Endings.{FindsFrom, IsStatusBy}
use Rattle.cwr_reports.specs.declared.tellings.Asked.{Asked}
use Rattle.cwr_reports.specs.declared.tellings.Telling.{Telling}
use Rattle.cwr_reports.specs.declared.tellings.Telling.TheVariants as tellings

-- What counts for the status: where advice is told, all of it or not, and the numbers of so many works are kept, all findings and all
-- advice, and else the findings. Something of it has the level or a worse one, or nothing has.
abbrev pub Counts : Option (Bool × ℕ) → Option Level → List Item → Bool → Type 0
Counts None asked items found = FindsFrom asked items found
Counts (Some (all, limit)) asked items found = TellsFrom (lines_of_advice all limit) asked items found

-- whether all advice is told, and of how many works it keeps the numbers, where it is told
abbrev pub advice_in : Telling → Option (Bool × ℕ)
advice_in (tellings.Advice all repeated) = Some (all, repeated)
advice_in telling = None

-- the same, by what is asked for
abbrev pub advice_asked : Asked → Option (Bool × ℕ)
advice_asked asked = if asked.faults then None else if asked.advised then Some (asked.all, asked.repeated) else None

-- what is told of an input that is judged so, with what explains it or not, and is called so in lines
abbrev pub telling_by : Asked → Bool → Bor (List ℕ) → Telling
telling_by asked explained name = if asked.faults then tellings.Faults (if explained then Some name else None) asked.advised asked.all
    else if asked.advised then tellings.Advice asked.all asked.repeated
    else if explained then tellings.Explained name else tellings.Findings

-- the run has the status on the input's bytes, where these are known, or the input, standard output or memory failed
abbrev pub EndsOnInput : Option (Bool × ℕ) → Limits → Wanted → Option (List ℕ) → Result Status Stop → Type 0
EndsOnInput advice limits wanted input (Ok status) = IfSome input (λ text. IsStatusBy (Counts advice) limits wanted text status)
EndsOnInput advice limits wanted input (Err stops.Output) = Unit {0}
EndsOnInput advice limits wanted input (Err (stops.Fault (faults.Read told))) = Unit {0}
EndsOnInput advice limits wanted input (Err (stops.Fault faults.Memory)) = Unit {0}
EndsOnInput advice limits wanted input (Err (stops.Fault fault)) = ⊥

-- A run over what a word names, a file or standard input, has the status on its text, or it couldn't be opened, or it, standard output or
-- memory failed.
abbrev pub EndsOnRead : Option (Bool × ℕ) → Limits → Wanted → Option Texts → Option (List ℕ) → Option (List ℕ) → Result Status Stop
    → Type 0
EndsOnRead advice limits wanted held standard name (Ok status) =
    IfRead held standard name (λ text. IsStatusBy (Counts advice) limits wanted text status)
EndsOnRead advice limits wanted held standard name (Err stops.Output) = Unit {0}
EndsOnRead advice limits wanted held standard name (Err (stops.Fault (faults.Open of reason))) = Unit {0}
EndsOnRead advice limits wanted held standard name (Err (stops.Fault (faults.Read told))) = Unit {0}
EndsOnRead advice limits wanted held standard name (Err (stops.Fault faults.Memory)) = Unit {0}
EndsOnRead advice limits wanted held standard name (Err (stops.Fault fault)) = ⊥

-- Of what the words name, one after another, the status is the worst: good where it is of each; refused where it is of one, and of each it
-- is that or good. Where one couldn't be read the run has that of a fault. It has no other where texts are known.
abbrev pub IsWorstOf : Option (Bool × ℕ) → Limits → Wanted → Option Texts → Option (List ℕ) → List (List ℕ) → Status → Type 0
IsWorstOf advice limits wanted held standard names statuses.Good =
    All (λ name. IfRead held standard (Some name) (λ text. IsStatusBy (Counts advice) limits wanted text statuses.Good)) names
IsWorstOf advice limits wanted held standard names statuses.Refused =
    All (λ name. IfRead held standard (Some name) (λ text. IsStatusBy (Counts advice) limits wanted text statuses.Good
    ⊎ IsStatusBy (Counts advice) limits wanted text statuses.Refused)) names
    × Any (λ name. IfRead held standard (Some name) (λ text. IsStatusBy (Counts advice) limits wanted text statuses.Refused)) names
IsWorstOf advice limits wanted held standard names statuses.CommandLine =
    Any (λ name. IfRead held standard (Some name) (λ text. ⊥)) names
IsWorstOf advice limits wanted held standard names statuses.Fault = Unit {0}

-- a run over several files has their worst status, or standard output or memory failed
abbrev pub EndsOnEach : Option (Bool × ℕ) → Limits → Wanted → Option Texts → Option (List ℕ) → List (List ℕ) → Result Status Stop
    → Type 0
EndsOnEach advice limits wanted held standard names (Ok status) = IsWorstOf advice limits wanted held standard names status
EndsOnEach advice limits wanted held standard names (Err stops.Output) = Unit {0}
EndsOnEach advice limits wanted held standard names (Err (stops.Fault faults.Memory)) = Unit {0}
EndsOnEach advice limits wanted held standard names (Err (stops.Fault fault)) = ⊥

-- What is written to a file ends so too, but that files may fail besides: where there is a status, it is that on the text.
abbrev pub EndsAsExport : Option (Bool × ℕ) → Limits → Wanted → Option (List ℕ) → Result Status Stop → Type 0
EndsAsExport advice limits wanted input (Ok status) = IfSome input (λ text. IsStatusBy (Counts advice) limits wanted text status)
EndsAsExport advice limits wanted input (Err stop) = Unit {0}

-- so it is of what a word names
abbrev pub EndsAsExportOf : Option (Bool × ℕ) → Limits → Wanted → Option Texts → Option (List ℕ) → Option (List ℕ) → Result Status Stop
    → Type 0
EndsAsExportOf advice limits wanted held standard name (Ok status) =
    IfRead held standard name (λ text. IsStatusBy (Counts advice) limits wanted text status)
EndsAsExportOf advice limits wanted held standard name (Err stop) = Unit {0}
