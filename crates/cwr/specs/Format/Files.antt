-- What lies under names after a run of each work, by how it ended.
use Rattle.std.specs.Prelude.{◌≡◌, ◌⊎◌, ℕ, Bool, List, map, None, Option, Some, option_map, Result, Ok, Err, IfOk}
use Rattle.cwr_moments.specs.declared.moments.Moment.{Moment}
use Rattle.cwr_shape.specs.declared.limits.Limits.{Limits}
use Rattle.cwr_words.specs.declared.words.Task.{Task}
use Rattle.cwr_words.specs.declared.words.Work.{Work}
use Rattle.cwr_words.specs.declared.words.Work.TheVariants.{Csv, Join, Json, Renumber, Select, Split, Write}
use Rattle.cwr_words.specs.declared.words.RenumberWords.{RenumberWords}
use Rattle.cwr_words.specs.Format.Words.{AskFor}
use Rattle.cwr_files.specs.Format.Files.{Same, Texts, Turns}
use Rattle.cwr_files.specs.Format.Inputs.{IfRead}
use Rattle.cwr_endings.specs.declared.endings.Status.{Status}
use Rattle.cwr_endings.specs.declared.endings.Wanted.{Wanted}
use Rattle.cwr_endings.specs.declared.stops.Stop.{Stop}
use Rattle.cwr_endings.specs.Format.Endings.{WritesOut}
use Rattle.cwr_reports.specs.declared.tellings.Telling.TheVariants as tellings
use Rattle.cwr_reports.specs.Format.Exports.{IsExportAt}
use Rattle.cwr_transform.specs.declared.imports.Import.{Import}
use Rattle.cwr_transform.specs.Format.Imports.{IsImportOf}
use Rattle.cwr_transform.specs.Format.Joins.{IsTextOfJoin}
use Rattle.cwr_transform.specs.Format.Repairs.{IsRepairOf, IsRepairStatus}
use Rattle.cwr_transform.specs.Format.Splits.{LeavesCut}
use Rattle.cwr_transform.specs.Format.Selections.{LeavesSelection}
use Rattle.cwr.specs.Format.Endings.{EndsOnWork, ending_status, import_of, status_code}
use Rattle.cwr.specs.Format.Failures.{FailsWork}
use Rattle.cwr.specs.Format.Selected.{IsSelectedBy}
use Rattle.cwr.specs.Format.Tables.{encoding_of, table_of}

-- a run that writes a file leaves it or nothing, and one that writes to standard output changes nothing
abbrev pub LeavesOut : Option (List ℕ) → ℕ → ℕ → (List ℕ → Type 0) → Result Status Stop → Texts → Texts → Type 0
LeavesOut None old now is ending texts new = Same texts new
LeavesOut (Some out) old now is ending texts new = WritesOut out old now is ending texts new

-- the text is that of the import of what a word names
abbrev pub IsImportAt : Import → Option Texts → Option (List ℕ) → Option (List ℕ) → List ℕ → Type 0
IsImportAt import held standard name text = IfRead held standard name (λ known. IsImportOf import (Some known) text)

-- What a run leaves that splits what a word names, by its text: one that fails may have changed nothing.
abbrev pub LeavesCutOf : Limits → ℕ → List ℕ → Option Moment → Option Texts → Option (List ℕ) → List ℕ → ℕ → ℕ → Result Status Stop
    → Texts → Texts → Type 0
LeavesCutOf limits n prefix created held standard name old now (Ok status) texts new =
    IfRead held standard (Some name) (λ known. LeavesCut limits n prefix created (Some known) old now (Ok status) texts new)
LeavesCutOf limits n prefix created held standard name old now (Err stop) texts new =
    Same texts new ⊎ IfRead held standard (Some name) (λ known. LeavesCut limits n prefix created (Some known) old now (Err stop) texts new)

-- What lies under names after a run of the work, within these limits, where so many calls had failed before it and had after it. Works that
-- only tell something change nothing. Of numbers that are put right it is said below.
abbrev pub LeavesWork : Limits → Bool → Work → Option Texts → Option (List ℕ) → ℕ → ℕ → Result Status Stop → Option Texts → Type 0
LeavesWork limits whole (Json words) held standard old now ending after =
    Turns held after (LeavesOut (option_map (λ name. name.now) words.out) old now
    (IsExportAt (tellings.Data (encoding_of words.utf8) words.numbers) limits held standard (option_map (λ name. name.now) words.file))
    ending)
LeavesWork limits whole (Csv words) held standard old now ending after =
    Turns held after (LeavesOut (option_map (λ name. name.now) words.out) old now
    (IsExportAt (tellings.Rows (encoding_of words.utf8) (table_of words.rows)) limits held standard
    (option_map (λ name. name.now) words.file)) ending)
LeavesWork limits whole (Write words) held standard old now ending after =
    Turns held after (LeavesOut (option_map (λ name. name.now) words.out) old now
    (IsImportAt (import_of limits words) held standard (option_map (λ name. name.now) words.file)) ending)
LeavesWork limits whole (Join words) held standard old now ending after =
    Turns held after (WritesOut words.out.now old now (IsTextOfJoin limits (record { whole = whole; fail_on = words.fail_on }) held standard
    (map (λ name. name.now) words.files.items)) ending)
LeavesWork limits whole (Split words) held standard old now ending after =
    Turns held after
    (LeavesCutOf limits words.transactions.value words.prefix.now words.created held standard words.file.now old now ending)
LeavesWork limits whole (Renumber words) held standard old now ending after = Unit {0}
LeavesWork limits whole (Select words) held standard old now ending after =
    Turns held after (LeavesSelection (option_map (λ name. name.now) words.out) old now
    (IsSelectedBy limits whole words held standard) ending)
LeavesWork limits whole work held standard old now ending after = Turns held after Same

-- What becomes of putting the numbers of an input right, where a text has these with its numbers put right: the status of the run, and what
-- lies under names then.
pub record RunsRepair (renumbered : List ℕ → List ℕ) (limits : Limits) (wanted : Wanted) (words : RenumberWords)
    (standard : Option (List ℕ)) (before after : Option Texts) (making : Option (List ℕ)) (old now : ℕ) (ending : Result Status Stop)
    : Type 0 where
  pub ends : IfOk ending (λ status. IfRead before standard (option_map (λ name. name.now) words.file)
      (λ text. IsRepairStatus renumbered limits wanted words.anyway text status))
  pub files : making ≡ None → Turns before after (LeavesOut (option_map (λ name. name.now) words.out) old now
      (λ text. IfRead before standard (option_map (λ name. name.now) words.file)
      (λ known. IsRepairOf renumbered limits wanted (Some known) text)) ending)

-- where the work is that
abbrev pub RunsRenumbering : (List ℕ → List ℕ) → Limits → Bool → Work → Option (List ℕ) → Option Texts → Option Texts
    → Option (List ℕ) → ℕ → ℕ → Result Status Stop → Type 0
RunsRenumbering renumbered limits whole (Renumber words) standard before after making old now ending =
    RunsRepair renumbered limits (record { whole = whole; fail_on = words.fail_on }) words standard before after making old now ending
RunsRenumbering renumbered limits whole work standard before after making old now ending = Unit {0}

-- What a run of the task comes to, where what is on standard input and lies under names is this: an end that the task may have, its status,
-- what failed where that is the status of a fault, what lies under names then, and what is told where the run ends so.
pub record RunsTask (renumbered : List ℕ → List ℕ) (tells : Result Status Stop → Type 0) (task : Task) (standard : Option (List ℕ)) (before after : Option Texts) (making : Option (List ℕ))
    (old now : ℕ) (status : Status) : Type 0 where
  pub ending : Result Status Stop
  pub ends : EndsOnWork task.limits task.whole task.work before standard ending
  pub status_is : status ≡ ending_status ending
  pub fails : FailsWork task.work making before after ending old now
  pub files : making ≡ None → LeavesWork task.limits task.whole task.work before standard old now ending after
  pub renumbers : RunsRenumbering renumbered task.limits task.whole task.work standard before after making old now ending
  pub told : tells ending

-- A run of a command line ends with the number of a status that the task has which it asks for, and leaves what such a run does. Where it asks
-- for none, that is 2, or there is no memory to tell, which is 3: then nothing changed, and nothing is told.
abbrev pub RunsWords : (List ℕ → List ℕ) → (Task → Result Status Stop → Type 0) → Type 0 → List (List ℕ) → Option (List ℕ) → Option Texts
    → Option Texts → Option (List ℕ) → ℕ → ℕ → ℕ → Type 0
RunsWords renumbered tells untold words standard before after making old now code =
    ((task : Task) × (status : Status) × AskFor words task
    × RunsTask renumbered (tells task) task standard before after making old now status × (code ≡ status_code status))
    ⊎ (Turns before after Same × untold × (((code ≡ 2) × ((task : Task) → AskFor words task → ⊥)) ⊎ (code ≡ 3)))
