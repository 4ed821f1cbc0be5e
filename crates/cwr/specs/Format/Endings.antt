-- How a run of each work ends, by what lies under the names that the words give, and its status.
use Rattle.std.specs.Prelude.{◌≡◌, ◌<◌, Bool, true, false, List, [], ◌∷◌, ℕ, map, count_by, length, ◌^◌, ◌-◌, Option, None, Some, option_map}
use Rattle.std.specs.Prelude.{Result, Ok, Err}
use Rattle.std.specs.Option.{is_some}
use Rattle.cwr_shape.specs.declared.limits.Limits.{Limits}
use Rattle.cwr_states.specs.declared.state_sets.States.{States}
use Rattle.cwr_words.specs.declared.words.Work.{Work}
use Rattle.cwr_words.specs.declared.words.Work.TheVariants.{Check, Show, Explain, Lint, Advise, Json, Csv, Acks, Summary, Write, Split}
use Rattle.cwr_words.specs.declared.words.Work.TheVariants.{Join, Renumber, Select, Manual}
use Rattle.cwr_words.specs.declared.words.WriteWords.{WriteWords}
use Rattle.cwr_files.specs.declared.faults.Fault.{Fault}
use Rattle.cwr_files.specs.declared.faults.Fault.TheVariants as faults
use Rattle.cwr_files.specs.Format.Files.{Texts}
use Rattle.cwr_files.specs.Format.Inputs.{IfRead, is_standard}
use Rattle.cwr_endings.specs.declared.endings.Status.{Status}
use Rattle.cwr_endings.specs.declared.endings.Status.TheVariants as statuses
use Rattle.cwr_endings.specs.declared.endings.Wanted.{Wanted}
use Rattle.cwr_endings.specs.declared.stops.Stop.{Stop}
use Rattle.cwr_endings.specs.declared.stops.Stop.TheVariants as stops
use Rattle.cwr_endings.specs.Format.Endings.{IsStatusOn}
use Rattle.cwr_reports.specs.Format.Endings.{EndsAsExportOf, EndsOnEach, EndsOnRead}
use Rattle.cwr_answers.specs.Format.Endings.{EndsOnAnswers}
use Rattle.cwr_summaries.specs.Format.Summed.{summed}
use Rattle.cwr_transform.specs.declared.imports.Import.{Import}
use Rattle.cwr_transform.specs.Format.Imports.{IsImportStatus}
use Rattle.cwr_transform.specs.Format.Joins.{IsStatusOfJoin}
use Rattle.cwr.specs.Format.Selected.{HasSelectedStatus, IsApartBy, IsSelectedBy}
use Rattle.cwr.specs.Format.Tables.{encoding_of}

-- two of the words name standard input, which is there once
abbrev pub AreStandardTwice : List (List ℕ) → Type 0
AreStandardTwice names = 1 < count_by (λ name. is_standard (Some name)) names

-- a run over several inputs, of which one at most is standard input, has the worst of their statuses
abbrev pub EndsOnSeveral : Option (Bool × ℕ) → Limits → Wanted → Option Texts → Option (List ℕ) → List (List ℕ) → Result Status Stop
    → Type 0
EndsOnSeveral advice limits wanted held standard names (Err (stops.Fault (faults.IsTwice of))) = AreStandardTwice names
EndsOnSeveral advice limits wanted held standard names ending = EndsOnEach advice limits wanted held standard names ending

-- a run over what is named, or over standard input where nothing is
abbrev pub EndsOnFiles : Option (Bool × ℕ) → Limits → Wanted → Option Texts → Option (List ℕ) → List (List ℕ) → Result Status Stop
    → Type 0
EndsOnFiles advice limits wanted held standard [] ending = EndsOnRead advice limits wanted held standard None ending
EndsOnFiles advice limits wanted held standard (name ∷ []) ending = EndsOnRead advice limits wanted held standard (Some name) ending
EndsOnFiles advice limits wanted held standard (name ∷ other ∷ names) ending =
    EndsOnSeveral advice limits wanted held standard (name ∷ other ∷ names) ending

-- data and tables of an input are written to standard output, or to a file
abbrev pub EndsAsData : Option (Bool × ℕ) → Limits → Wanted → Option Texts → Option (List ℕ) → Option (List ℕ) → Bool
    → Result Status Stop → Type 0
EndsAsData advice limits wanted held standard name false ending = EndsOnRead advice limits wanted held standard name ending
EndsAsData advice limits wanted held standard name true ending = EndsAsExportOf advice limits wanted held standard name ending

-- The status of acknowledgements is that of the one text, or the worst of several. Where they are matched with what was sent, by keys or by the
-- place alone, it is that of a refusal where one of that isn't accepted, and where a row of what became of that has a state that ends a run so.
abbrev pub EndsAsAnswers : Limits → Bool → Bool → States → Option Texts → Option (List ℕ) → List (List ℕ) → List (List ℕ)
    → Result Status Stop → Type 0
EndsAsAnswers limits whole by_place fail_on held standard [] [] ending =
    EndsOnRead None limits (record { whole = whole; fail_on = None }) held standard None ending
EndsAsAnswers limits whole by_place fail_on held standard (name ∷ []) [] ending =
    EndsOnRead None limits (record { whole = whole; fail_on = None }) held standard (Some name) ending
EndsAsAnswers limits whole by_place fail_on held standard names sent ending =
    EndsOnAnswers limits whole by_place fail_on held standard names sent ending

-- the manual is printed, or not taken, or there was no memory
abbrev pub EndsAsManual : Result Status Stop → Type 0
EndsAsManual (Ok status) = status ≡ statuses.Good
EndsAsManual (Err stops.Output) = Unit {0}
EndsAsManual (Err (stops.Fault faults.Memory)) = Unit {0}
EndsAsManual (Err (stops.Fault fault)) = ⊥

-- the import that the words ask for
abbrev pub import_of : Limits → WriteWords → Import
import_of limits words = record { limits = limits; encoding = encoding_of words.utf8; most = words.line }

-- an import has the status of its lines; else a file, a device or memory failed, or OUT is the input
abbrev pub EndsAsWriting : Limits → WriteWords → Option Texts → Option (List ℕ) → Result Status Stop → Type 0
EndsAsWriting limits words held standard (Ok status) =
    IfRead held standard (option_map (λ name. name.now) words.file)
    (λ text. length text < 2 ^ 64 - 1 → IsImportStatus (import_of limits words) text status)
EndsAsWriting limits words held standard (Err stop) = Unit {0}

-- a split has the status of its text; else a file, a device or memory failed, or a part may not be written
abbrev pub EndsAsCut : Limits → Wanted → Option Texts → Option (List ℕ) → List ℕ → Result Status Stop → Type 0
EndsAsCut limits wanted held standard name (Ok status) = IfRead held standard (Some name) (λ text. IsStatusOn limits wanted text status)
EndsAsCut limits wanted held standard name (Err stop) = Unit {0}

-- a join has the status of the texts that its words name, of which standard input is one at most; else a file, a device or memory failed, or
-- OUT may not be written, or an input has another sender and may not
abbrev pub EndsAsUnion : Limits → Wanted → Option Texts → Option (List ℕ) → List (List ℕ) → Result Status Stop → Type 0
EndsAsUnion limits wanted held standard names (Ok status) = IsStatusOfJoin limits wanted held standard names status
EndsAsUnion limits wanted held standard names (Err (stops.Fault (faults.IsTwice of))) = AreStandardTwice names
EndsAsUnion limits wanted held standard names (Err stop) = Unit {0}

-- a run ends well only where there is such a text
abbrev pub EndsWellAs : (List ℕ → Type 0) → Result Status Stop → Type 0
EndsWellAs is (Ok statuses.Good) = (text : List ℕ) × is text
EndsWellAs is (Ok statuses.Refused) = Unit {0}
EndsWellAs is (Ok statuses.CommandLine) = Unit {0}
EndsWellAs is (Ok statuses.Fault) = ⊥
EndsWellAs is (Err stop) = Unit {0}

-- How a run of the work ends, within these limits, and where nothing may follow a transmission or something may. Of numbers that are put
-- right nothing is said here.
abbrev pub EndsOnWork : Limits → Bool → Work → Option Texts → Option (List ℕ) → Result Status Stop → Type 0
EndsOnWork limits whole (Check judging) held standard ending =
    EndsOnFiles None limits (record { whole = whole; fail_on = judging.fail_on }) held standard (map (λ name. name.now) judging.files.items)
    ending
EndsOnWork limits whole (Explain judging) held standard ending =
    EndsOnFiles None limits (record { whole = whole; fail_on = judging.fail_on }) held standard (map (λ name. name.now) judging.files.items)
    ending
EndsOnWork limits whole (Show words) held standard ending =
    EndsOnRead None limits (record { whole = whole; fail_on = words.fail_on }) held standard (option_map (λ name. name.now) words.file) ending
EndsOnWork limits whole (Lint words) held standard ending =
    EndsOnFiles None limits (record { whole = whole; fail_on = None }) held standard (map (λ name. name.now) words.files.items) ending
EndsOnWork limits whole (Advise words) held standard ending =
    EndsOnFiles (Some (words.all, words.repeated)) limits (record { whole = whole; fail_on = words.judging.fail_on }) held standard
    (map (λ name. name.now) words.judging.files.items) ending
EndsOnWork limits whole (Json words) held standard ending =
    EndsAsData None limits (record { whole = whole; fail_on = None }) held standard (option_map (λ name. name.now) words.file)
    (is_some words.out) ending
EndsOnWork limits whole (Csv words) held standard ending =
    EndsAsData None limits (record { whole = whole; fail_on = None }) held standard (option_map (λ name. name.now) words.file)
    (is_some words.out) ending
EndsOnWork limits whole (Acks words) held standard ending =
    EndsAsAnswers limits whole words.by_place words.fail_on held standard (map (λ name. name.now) words.files.items)
    (map (λ name. name.now) words.sent.items) ending
EndsOnWork limits whole (Summary words) held standard ending =
    EndsOnSeveral None limits (record { whole = whole; fail_on = None }) held standard (summed (map (λ name. name.now) words.files.items)) ending
EndsOnWork limits whole (Write words) held standard ending = EndsAsWriting limits words held standard ending
EndsOnWork limits whole (Split words) held standard ending =
    EndsAsCut limits (record { whole = whole; fail_on = words.fail_on }) held standard words.file.now ending
EndsOnWork limits whole (Join words) held standard ending =
    EndsAsUnion limits (record { whole = whole; fail_on = words.fail_on }) held standard (map (λ name. name.now) words.files.items) ending
EndsOnWork limits whole (Renumber words) held standard ending = Unit {0}
EndsOnWork limits whole (Select words) held standard ending =
    EndsWellAs (IsSelectedBy limits whole words held standard) ending × HasSelectedStatus limits whole words held standard ending
    × IsApartBy limits whole words held ending
EndsOnWork limits whole Manual held standard ending = EndsAsManual ending

-- the status of a fault: what was to be written may not be, or what was to be read can't be, or a file, a device or memory failed
abbrev pub fault_status : Fault → Status
fault_status (faults.IsInput name) = statuses.CommandLine
fault_status (faults.IsThere name) = statuses.CommandLine
fault_status (faults.IsTwice name) = statuses.CommandLine
fault_status (faults.IsOther name) = statuses.CommandLine
fault_status (faults.IsLate name) = statuses.CommandLine
fault_status fault = statuses.Fault

-- the status of an end
abbrev pub ending_status : Result Status Stop → Status
ending_status (Ok status) = status
ending_status (Err stops.Output) = statuses.Fault
ending_status (Err (stops.Fault fault)) = fault_status fault

-- the number of a status
abbrev pub status_code : Status → ℕ
status_code statuses.Good = 0
status_code statuses.Refused = 1
status_code statuses.CommandLine = 2
status_code statuses.Fault = 3
