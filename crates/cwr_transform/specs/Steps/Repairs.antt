-- What is made of an input whose numbers are put right.
use Rattle.std.specs.Prelude.{◌≡◌, ◌≢◌, ◌+◌, ℕ, Bool, true, false, not, ◌&&◌, ◌||◌, List, Option, Some, IfSome, Result, Ok, Err, if◌then◌else◌}
use Rattle.std.specs.Io.KnownBytes.{Appends}
use Rattle.std.specs.Result.{is_ok}
use Rattle.cwr_shape.specs.declared.limits.Limits.{Limits}
use Rattle.cwr_values.specs.declared.items.Item.{Item}
use Rattle.cwr_values.specs.Format.Values.{FitsIn, IsTransmission, TransmissionValue}
use Rattle.cwr_values.specs.Format.Rows.{canonical_text}
use Rattle.cwr_judge.specs.Format.Ends.{IsAccepted}
use Rattle.cwr_judge.specs.Format.Items.{value_items}
use Rattle.cwr_tools.specs.declared.verdicts.JoinReport.{JoinReport}
use Rattle.cwr_tools.specs.declared.verdicts.ToolFault.{ToolFault}
use Rattle.cwr_tools.specs.declared.verdicts.ToolFault.TheVariants.{Memory, Output, Reader, Writer}
use Rattle.cwr_parts.specs.Format.Joins.{CountsInputFault, IsOfDevice}
use Rattle.cwr_files.specs.declared.faults.Fault.{Fault}
use Rattle.cwr_files.specs.declared.faults.Fault.TheVariants as faults
use Rattle.cwr_files.specs.Format.Files.{HasCounted, Texts}
use Rattle.cwr_files.specs.Steps.NewFiles.{HasKeptCount}
use Rattle.cwr_endings.specs.declared.endings.Look.{Look}
use Rattle.cwr_endings.specs.declared.endings.Look.TheVariants as looks
use Rattle.cwr_endings.specs.declared.endings.Status.{Status}
use Rattle.cwr_endings.specs.declared.endings.Status.TheVariants as statuses
use Rattle.cwr_endings.specs.declared.endings.Wanted.{Wanted}
use Rattle.cwr_endings.specs.declared.stops.Stop.{Stop}
use Rattle.cwr_endings.specs.declared.stops.Stop.TheVariants as stops
use Rattle.cwr_endings.specs.Format.Endings.{EndsAfterFault, FindsFrom, SettlesOut, WritesOut}
use Rattle.cwr_endings.specs.Steps.Looks.{CountsLook, follows}
use Rattle.cwr_transform.specs.declared.renumberings.Repaired.{Repaired}
use Rattle.cwr_transform.specs.declared.renumberings.RepairedFile.{RepairedFile}
use Rattle.cwr_files.specs.declared.inputs.Input.{Input}
use Rattle.cwr_files.specs.Steps.Inputs.{remaining_of}
use Rattle.cwr_renumber.specs.Steps.Renumbered.{renumbered_text}
use Rattle.cwr_transform.specs.Format.Repairs.{EndsAsRepair, IsRepairOf}
use Rattle.cwr_transform.specs.Steps.Joins.{writer_faults_of}

-- ---- what is written

-- the canonical text of a transmission is written, and this is so of what its items have
pub record WritesRight {W : Type 0} (renumbered : List ℕ → List ℕ) (limits : Limits) (counts : List Item → Type 0)
    (before : Option (List ℕ)) (contents : W → Option (List ℕ)) (old new : W) : Type 0 where
  pub value : TransmissionValue
  pub whole : IsTransmission value
  pub within : FitsIn limits value
  pub written : Appends (contents old) (contents new) (canonical_text value)
  pub accepted : IfSome before
      (λ text. (count : ℕ) × IsAccepted limits (renumbered text) value count × counts (value_items value))

-- an accepted text is written, unless a device or memory failed; no output is made
pub record StopsRight (renumbered : List ℕ → List ℕ) (limits : Limits) (before : Option (List ℕ)) (fault : ToolFault) : Type 0 where
  pub right : IfSome before (λ text. (v : TransmissionValue) (count : ℕ) → IsAccepted limits (renumbered text) v count → IsOfDevice fault)
  pub unmade : fault ≢ Output

abbrev pub Rewrites : {W : Type 0} → (List ℕ → List ℕ) → Limits → (List Item → Type 0) → Option (List ℕ) → (W → Option (List ℕ))
    → W → W → Result JoinReport ToolFault → Type 0
Rewrites renumbered limits counts before contents old new (Ok report) = WritesRight renumbered limits counts before contents old new
Rewrites renumbered limits counts before contents old new (Err fault) = StopsRight renumbered limits before fault

-- the answer is right of the text, and this is so of what its items have
abbrev pub Judges : (List ℕ → List ℕ) → Limits → (List Item → Type 0) → Option (List ℕ) → Result JoinReport ToolFault → Type 0
Judges renumbered limits counts before (Ok report) =
    IfSome before (λ text. (v : TransmissionValue) × (count : ℕ) × IsAccepted limits (renumbered text) v count × counts (value_items v))
Judges renumbered limits counts before (Err fault) = StopsRight renumbered limits before fault

-- it is known whether a finding is unwanted; what is mixed is unwanted only where that is so
pub record IsRightOf (renumbered : List ℕ → List ℕ) (limits : Limits) (wanted : Wanted) (anyway : Bool) (before : Option (List ℕ))
    (repaired : Repaired) : Type 0 where
  pub judged : Judges renumbered limits (λ items. FindsFrom wanted.fail_on items repaired.found) before repaired.outcome
  pub mixed : repaired.mixed ≡ true → anyway ≡ false

-- what is written is right too
abbrev pub RepairsInput : {W : Type 0} → (List ℕ → List ℕ) → Limits → Wanted → Option (List ℕ) → (W → Option (List ℕ)) → W → W
    → Repaired → Type 0
RepairsInput renumbered limits wanted before contents old new repaired =
    Rewrites renumbered limits (λ items. FindsFrom wanted.fail_on items repaired.found) before contents old new repaired.outcome

-- the answer once it is known whether memory was refused for what was seen
abbrev pub kept_outcome : Bool → Result JoinReport ToolFault → Result JoinReport ToolFault
kept_outcome lacks (Ok report) = if lacks then Err Memory else Ok report
kept_outcome lacks (Err fault) = Err fault

-- ---- failures

-- the reader's count one more where its fault is answered, or it failed after the transmission
abbrev pub CountsRewritten : Result JoinReport ToolFault → Look → ℕ → ℕ → Type 0
CountsRewritten (Ok report) look old new = CountsLook look old new
CountsRewritten (Err fault) look old new = CountsInputFault fault old new

-- the store that takes it back counts that, and forgets no failure
abbrev pub CountsRead : Result JoinReport ToolFault → Look → ℕ → ℕ → Type 0
CountsRead (Ok report) looks.Failed old new = HasCounted old new
CountsRead (Err Reader) look old new = HasCounted old new
CountsRead outcome look old new = HasKeptCount old new

-- so it is once the file is settled, and a failure of its writer is counted too
abbrev pub CountsFile : Result JoinReport ToolFault → Look → ℕ → ℕ → Type 0
CountsFile (Ok report) looks.Failed old now = HasCounted old now
CountsFile (Err Reader) look old now = HasCounted old now
CountsFile (Err (Writer written)) look old now = HasCounted old now
CountsFile outcome look old now = Unit {0}

-- how often a device failed where that is answered, or the reader after the transmission
abbrev pub device_faults_of : ToolFault → ℕ
device_faults_of Reader = 1
device_faults_of fault = writer_faults_of fault

abbrev pub look_faults : Look → ℕ
look_faults looks.Failed = 1
look_faults look = 0

abbrev pub faults_by : Result JoinReport ToolFault → Look → ℕ
faults_by (Ok report) look = look_faults look
faults_by (Err fault) look = device_faults_of fault

-- ---- what is wanted

-- nothing stands after the transmission, as far as that was looked at
abbrev pub stands_alone : Look → Bool
stands_alone (looks.Found trailing) = not (follows trailing)
stands_alone looks.Failed = false
stands_alone looks.Unasked = true

-- what was written gets its name
abbrev pub keeps_repaired : Bool → Repaired → Bool
keeps_repaired whole repaired =
    ((is_ok repaired.outcome && (stands_alone repaired.look || not whole)) && not repaired.found) && not repaired.mixed

-- so the run ends, by whether it does
abbrev pub EndsRewritten : Bool → Look → Repaired → Result Status Stop → Type 0
EndsRewritten true look repaired ending = ending ≡ Ok statuses.Good
EndsRewritten false looks.Failed repaired ending = ending ≡ Err (stops.Fault (faults.Read repaired.read))
EndsRewritten false look repaired ending = ending ≡ Ok statuses.Refused

abbrev pub EndsRepaired : Bool → Stop → Stop → Result JoinReport ToolFault → Repaired → Result Status Stop → Type 0
EndsRepaired whole written made (Ok report) repaired ending =
    EndsRewritten (keeps_repaired whole repaired) repaired.look repaired ending
EndsRepaired whole written made (Err fault) repaired ending = EndsAfterFault repaired.read written made (Some fault) ending

-- ---- the file

-- what is left once it is settled
abbrev pub LeavesRepaired : List ℕ → Bool → ℕ → ℕ → (List ℕ → Type 0) → Result RepairedFile Fault → Texts → Texts → Type 0
LeavesRepaired out whole old now is (Ok file) texts new =
    SettlesOut out (old + faults_by file.repaired.outcome file.repaired.look) now is (keeps_repaired whole file.repaired) texts new
LeavesRepaired out whole old now is (Err fault) texts new = WritesOut out old now is (Err (stops.Fault fault)) texts new

-- ---- of what an input has left

-- so a run over it ends
abbrev pub EndsRenumbered : {F I P : Type 0} → (F → Option (List ℕ)) → (I → Option (List ℕ)) → Limits → Wanted → Bool → Input F I P
    → Result Status Stop → Type 0
EndsRenumbered of_file of_standard limits wanted anyway input ending =
    EndsAsRepair renumbered_text limits wanted anyway (remaining_of of_file of_standard input) ending

-- and that is written
abbrev pub IsRenumberedOf : {F I P : Type 0} → (F → Option (List ℕ)) → (I → Option (List ℕ)) → Limits → Wanted → Input F I P → List ℕ
    → Type 0
IsRenumberedOf of_file of_standard limits wanted input text =
    IsRepairOf renumbered_text limits wanted (remaining_of of_file of_standard input) text
