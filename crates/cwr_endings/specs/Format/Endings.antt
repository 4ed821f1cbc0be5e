-- What the end of a run over texts means for the program.
use Rattle.std.specs.Prelude.{◌≡◌, ◌≢◌, ◌⊎◌, ◌&&◌, ℕ, ◌+◌, Bool, true, List, [], All, drop, false, Option, None, Some, Result, Ok, Err}
use Rattle.std.specs.Option.{is_some}
use Rattle.std.specs.Str.{bytes_eq}
use Rattle.cwr_shape.specs.declared.limits.Limits.{Limits}
use Rattle.cwr_shape.specs.declared.reasons.Level.{Level}
use Rattle.cwr_values.specs.declared.items.Item.{Item}
use Rattle.cwr_values.specs.Format.Values.{TransmissionValue}
use Rattle.cwr_judge.specs.declared.refusals.Refusal.{Refusal}
use Rattle.cwr_judge.specs.Format.Ends.{IsAccepted, IsRefused, IsTruncated}
use Rattle.cwr_judge.specs.Format.Items.{value_items}
use Rattle.cwr_tools.specs.declared.verdicts.ToolFault.{ToolFault}
use Rattle.cwr_tools.specs.declared.verdicts.ToolFault.TheVariants as tool_faults
use Rattle.cwr_tools.specs.Format.Watching.{any_from}
use Rattle.cwr_endings.specs.declared.endings.Status.{Status}
use Rattle.cwr_endings.specs.declared.endings.Status.TheVariants as statuses
use Rattle.cwr_endings.specs.declared.endings.Wanted.{Wanted}
use Rattle.cwr_endings.specs.declared.stops.Stop.{Stop}
use Rattle.cwr_endings.specs.declared.stops.Stop.TheVariants as stops
use Rattle.cwr_files.specs.declared.faults.Told.{Told}
use Rattle.cwr_files.specs.declared.faults.Fault.{Fault}
use Rattle.cwr_files.specs.declared.faults.Fault.TheVariants as faults
use Rattle.cwr_files.specs.declared.faults.Name.{Name}
use Rattle.cwr_files.specs.Format.Files.{Texts}
use Rattle.cwr_files.specs.Format.Inputs.{path_of_input}
use Rattle.cwr_files.specs.Format.NewFiles.{HoldsNew, LeavesAll}

-- A run without a fault ends well. An input that is refused or ends too early, and a limit that the result passes, end it
-- otherwise, and the fault of a device or of memory is reported, with what is known of that device.
abbrev pub EndsAfterFault : Told → Stop → Stop → Option ToolFault → Result Status Stop → Type 0
EndsAfterFault input writing made None ending = ending ≡ Ok statuses.Good
EndsAfterFault input writing made (Some tool_faults.Reader) ending = ending ≡ Err (stops.Fault (faults.Read input))
EndsAfterFault input writing made (Some (tool_faults.Writer written)) ending = ending ≡ Err writing
EndsAfterFault input writing made (Some tool_faults.Memory) ending = ending ≡ Err (stops.Fault faults.Memory)
EndsAfterFault input writing made (Some (tool_faults.Refused refusal)) ending = ending ≡ Ok statuses.Refused
EndsAfterFault input writing made (Some (tool_faults.Truncated records)) ending = ending ≡ Ok statuses.Refused
EndsAfterFault input writing made (Some tool_faults.Output) ending = ending ≡ Err made
EndsAfterFault input writing made (Some (tool_faults.Limit limit)) ending = ending ≡ Ok statuses.Refused

-- a finding in these items has the level or a worse one, or none has
abbrev pub FindsFrom : Option Level → List Item → Bool → Type 0
FindsFrom asked items found = any_from asked items ≡ found

-- What is wanted of a transmission that takes the text's first n bytes is there: nothing follows, if that is wanted, and nothing that
-- counts has the unwanted level or a worse one.
pub record Meets (counts : Option Level → List Item → Bool → Type 0) (wanted : Wanted) (text : List ℕ) (v : TransmissionValue) (n : ℕ)
    : Type 0 where
  pub whole : wanted.whole ≡ true → drop n text ≡ []
  pub calm : counts wanted.fail_on (value_items v) false

-- it isn't there
abbrev pub FallsShort : (Option Level → List Item → Bool → Type 0) → Wanted → List ℕ → TransmissionValue → ℕ → Type 0
FallsShort counts wanted text v n =
    ((wanted.whole ≡ true) × (drop n text ≢ [])) ⊎ counts wanted.fail_on (value_items v) true

-- A run over the text ends well where that begins with a transmission within the limits that has all that is wanted, and as refused
-- where it hasn't, or where the text is refused or truncated.
abbrev pub IsStatusBy : (Option Level → List Item → Bool → Type 0) → Limits → Wanted → List ℕ → Status → Type 0
IsStatusBy counts limits wanted text statuses.Good =
    (v : TransmissionValue) × (n : ℕ) × IsAccepted limits text v n × Meets counts wanted text v n
IsStatusBy counts limits wanted text statuses.Refused =
    ((refusal : Refusal) × IsRefused limits text refusal) ⊎ (((records : ℕ) × IsTruncated limits text records)
    ⊎ ((v : TransmissionValue) × (n : ℕ) × IsAccepted limits text v n × FallsShort counts wanted text v n))
IsStatusBy counts limits wanted text statuses.CommandLine = ⊥
IsStatusBy counts limits wanted text statuses.Fault = ⊥

-- so it ends where findings count
abbrev pub IsStatusOn : Limits → Wanted → List ℕ → Status → Type 0
IsStatusOn limits wanted text status = IsStatusBy FindsFrom limits wanted text status

-- ---- what a run writes

-- what was to be written is an input, or is there where only a new file may be made
abbrev pub IsRefusedOut : Name → Bool → Fault → Type 0
IsRefusedOut name only_new (faults.IsInput of) = of ≡ name
IsRefusedOut name only_new (faults.IsThere of) = (of ≡ name) × (only_new ≡ true)
IsRefusedOut name only_new fault = ⊥

-- what lies under the name, if something does, is none of the inputs that these words name
abbrev pub IsNoInput : List ℕ → List (List ℕ) → Texts → Type 0
IsNoInput out words texts = All (λ word. (is_some (texts out) && bytes_eq out (path_of_input word)) ≡ false) words

-- ---- the status of several files

-- the worse one of both
abbrev pub worse_status : Status → Status → Status
worse_status statuses.Fault other = statuses.Fault
worse_status statuses.CommandLine statuses.Fault = statuses.Fault
worse_status statuses.CommandLine other = statuses.CommandLine
worse_status statuses.Refused statuses.Good = statuses.Refused
worse_status statuses.Refused other = other
worse_status statuses.Good other = other

-- ---- what is left of a run that writes a file

-- A file that is settled has its name and holds a text that is so, where it is wanted, and nothing else changed; else nothing did, unless
-- more calls failed than so many.
abbrev pub SettlesOut : List ℕ → ℕ → ℕ → (List ℕ → Type 0) → Bool → Texts → Texts → Type 0
SettlesOut out most failures is true texts new = HoldsNew out is texts new
SettlesOut out most failures is false texts new = LeavesAll out most failures texts new

-- What a run leaves that writes the file of that name, where so many failures were counted before it and after it. Where it ends well the
-- file holds a text that is so, and nothing else changed. Else nothing did, unless a call failed, and where a file or a device failed,
-- unless another call did: then something may be left under a name that says that it isn't whole. Where standard output failed, on which
-- it is said how the run ended, either is so.
abbrev pub WritesOut : List ℕ → ℕ → ℕ → (List ℕ → Type 0) → Result Status Stop → Texts → Texts → Type 0
WritesOut out old now is (Ok statuses.Good) texts new = HoldsNew out is texts new
WritesOut out old now is (Ok status) texts new = LeavesAll out old now texts new
WritesOut out old now is (Err stops.Output) texts new = HoldsNew out is texts new ⊎ LeavesAll out old now texts new
WritesOut out old now is (Err (stops.Fault (faults.IsOther of))) texts new = LeavesAll out old now texts new
WritesOut out old now is (Err (stops.Fault faults.Memory)) texts new = LeavesAll out old now texts new
WritesOut out old now is (Err (stops.Fault fault)) texts new = LeavesAll out (old + 1) now texts new
