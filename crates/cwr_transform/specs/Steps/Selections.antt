-- What came of a run that selects, and what it leaves.
use Rattle.std.specs.Prelude.{◌≡◌, ◌⊎◌, ◌<◌, ◌+◌, ◌==◌, ◌&&◌, ◌||◌, ℕ, Bool, true, false, not, if◌then◌else◌, List, drop, Option, Some, None, IfSome, Result, Ok, Err, is_ok, option_map}
use Rattle.std.specs.Str.{bytes_eq}
use Rattle.std.specs.Io.KnownBytes.{Appends}
use Rattle.cwr_devices.specs.Format.Failures.{one_more_failure}
use Rattle.cwr_shape.specs.declared.limits.Limits.{Limits}
use Rattle.cwr_values.specs.Format.Values.{TransmissionValue}
use Rattle.cwr_judge.specs.Format.Ends.{IsAccepted, IsRefused, IsTruncated}
use Rattle.cwr_tools.specs.Format.Watching.{any_from}
use Rattle.cwr_tools.specs.declared.verdicts.ToolFault.{ToolFault}
use Rattle.cwr_tools.specs.declared.verdicts.ToolFault.TheVariants as tool_faults
use Rattle.cwr_select.specs.declared.reports.SelectReport.{SelectReport}
use Rattle.cwr_select.specs.declared.changes.Changes.{Changes}
use Rattle.cwr_select.specs.Format.Selections.{Choice, selected_count}
use Rattle.cwr_select.specs.Format.Selecting.{select_report}
use Rattle.cwr_select.specs.Format.Sent.{sent_text}
use Rattle.cwr_files.specs.declared.faults.Fault.{Fault}
use Rattle.cwr_files.specs.declared.faults.Fault.TheVariants as faults
use Rattle.cwr_files.specs.declared.faults.Told.{Told}
use Rattle.cwr_files.specs.Format.Files.{Texts}
use Rattle.cwr_endings.specs.declared.endings.Look.{Look}
use Rattle.cwr_endings.specs.declared.endings.Look.TheVariants as looks
use Rattle.cwr_endings.specs.declared.endings.Status.{Status}
use Rattle.cwr_endings.specs.declared.endings.Status.TheVariants as statuses
use Rattle.cwr_endings.specs.declared.endings.Wanted.{Wanted}
use Rattle.cwr_endings.specs.declared.stops.Stop.{Stop}
use Rattle.cwr_endings.specs.declared.stops.Stop.TheVariants as stops
use Rattle.cwr_endings.specs.Format.Endings.{EndsAfterFault, SettlesOut, WritesOut}
use Rattle.cwr_endings.specs.Steps.Looks.{CountsLook, IsLook, good_status}
use Rattle.cwr_transform.specs.declared.select_views.SelectView.{SelectView}
use Rattle.cwr_transform.specs.declared.selections.Lists.{Lists}
use Rattle.cwr_transform.specs.declared.selections.ReadList.{ReadList}
use Rattle.cwr_transform.specs.declared.selections.Selected.{Selected}
use Rattle.cwr_transform.specs.declared.selections.SelectedFile.{SelectedFile}
use Rattle.cwr_transform.specs.declared.sought.Sought.{Sought}
use Rattle.cwr_transform.specs.declared.selections.Unlisted.{Unlisted}
use Rattle.cwr_transform.specs.declared.selections.Unlisted.TheVariants as unlisted
use Rattle.cwr_transform.specs.Format.Lists.{all_read, entries_in, number_in, place_in}
use Rattle.cwr_transform.specs.Format.Missing.{chosen_of, is_created_at, is_missing, placed, same_place}
use Rattle.cwr_transform.specs.Format.Selections.{Asking}
use Rattle.cwr_transform.specs.Steps.Joins.{faults_of}
use Rattle.cwr_transform.specs.Steps.Lists.{ReadsText, SayValues}
use Rattle.cwr_transform.specs.Steps.Sought.{numbers_sought, places_sought}
use Rattle.cwr_transform.specs.Steps.TellingLists.{AreAllIn, Knows}

-- ---- what came of it

-- it failed where memory was refused for what was seen
abbrev pub with_memory : Result SelectReport ToolFault → Bool → Result SelectReport ToolFault
with_memory (Ok report) true = Err tool_faults.Memory
with_memory (Ok report) false = Ok report
with_memory (Err fault) lacks = Err fault

-- nothing is selected
abbrev pub is_empty : Result SelectReport ToolFault → Bool
is_empty (Ok report) = report.selected == 0
is_empty (Err fault) = false

-- what follows the transmission is looked at where all was selected
abbrev pub LooksAfterSelecting : Option (List ℕ) → Option (List ℕ) → Result SelectReport ToolFault → Look → Type 0
LooksAfterSelecting left after (Ok report) look = IsLook left after look
LooksAfterSelecting left after (Err fault) look = look ≡ looks.Unasked

abbrev pub CountsLookAfter : Result SelectReport ToolFault → Look → ℕ → ℕ → Type 0
CountsLookAfter (Ok report) look old new = CountsLook look old new
CountsLookAfter (Err fault) look old new = new ≡ old

-- the status of what is selected of a transmission, by that of the transmission
abbrev pub short_status : Bool → Option Status → Option Status
short_status true (Some statuses.Good) = Some statuses.Refused
short_status short status = status

-- none where the input failed after its transmission, and nothing may follow that; where something may be missing, or not
abbrev pub status_where : Bool → Wanted → Selected → Option Status
status_where missing wanted s =
    if s.is_same_moment then Some statuses.CommandLine else short_status (missing || s.is_empty) (good_status wanted s.look s.found)

abbrev pub selected_status : Wanted → Selected → Option Status
selected_status wanted s = status_where s.is_missing wanted s

abbrev pub is_good : Option Status → Bool
is_good (Some statuses.Good) = true
is_good status = false

-- what was written is what is wanted, whether something is missing or not
abbrev pub keeps : Result SelectReport ToolFault → Option Status → Bool
keeps (Ok report) status = is_good status
keeps (Err fault) status = false

abbrev pub keeps_selected : Wanted → Selected → Bool
keeps_selected wanted s = keeps s.outcome (status_where false wanted s)

-- ---- of which text

-- some of a transmission is selected, unless nothing is, and what follows that was looked at
pub record HasJudged (limits : Limits) (choice : Choice) (left : Option (List ℕ)) (look : Look) (empty : Bool) : Type 0 where
  pub value : TransmissionValue
  pub some : empty ≡ false → 0 < selected_count choice value
  pub from : IfSome left
      (λ known. (n : ℕ) × IsAccepted limits known value n × (after : Option (List ℕ)) × IsLook (Some (drop n known)) after look)

-- no output is made
abbrev pub JudgesBy : Limits → Choice → Option (List ℕ) → Result SelectReport ToolFault → Look → Bool → Type 0
JudgesBy limits choice left (Ok report) look empty = HasJudged limits choice left look empty
JudgesBy limits choice left (Err tool_faults.Output) look empty = ⊥
JudgesBy limits choice left (Err fault) look empty = Unit {0}

abbrev pub JudgesSelected : Limits → Choice → Option (List ℕ) → Selected → Type 0
JudgesSelected limits choice left s = JudgesBy limits choice left s.outcome s.look s.is_empty

-- and its text is written
pub record HasWritten {W : Type 0} (limits : Limits) (changes : Changes) (choice : Choice) (left : Option (List ℕ))
    (contents : W → Option (List ℕ)) (old new : W) (look : Look) (empty : Bool) : Type 0 where
  pub judged : HasJudged limits choice left look empty
  pub written : Appends (contents old) (contents new) (sent_text changes choice judged.value)

abbrev pub WritesBy : {W : Type 0} → Limits → Changes → Choice → Option (List ℕ) → (W → Option (List ℕ)) → W → W
    → Result SelectReport ToolFault → Look → Bool → Type 0
WritesBy limits changes choice left contents old new (Ok report) look empty =
    HasWritten limits changes choice left contents old new look empty
WritesBy limits changes choice left contents old new (Err tool_faults.Output) look empty = ⊥
WritesBy limits changes choice left contents old new (Err fault) look empty = Unit {0}

abbrev pub JudgesSelection : {W : Type 0} → Limits → Changes → Choice → Option (List ℕ) → (W → Option (List ℕ)) → W → W → Selected
    → Type 0
JudgesSelection limits changes choice left contents old new s =
    WritesBy limits changes choice left contents old new s.outcome s.look s.is_empty

-- ---- how often a device failed

abbrev pub CountsSelecting : Result SelectReport ToolFault → Look → ℕ → ℕ → Type 0
CountsSelecting (Ok report) look old new = CountsLook look old new
CountsSelecting (Err tool_faults.Reader) look old new = new ≡ one_more_failure old
CountsSelecting (Err fault) look old new = new ≡ old

abbrev pub look_faults : Look → ℕ
look_faults looks.Failed = 1
look_faults look = 0

abbrev pub selected_faults : Result SelectReport ToolFault → Look → ℕ
selected_faults (Ok report) look = look_faults look
selected_faults (Err fault) look = faults_of fault

-- ---- how it ends

abbrev pub EndsWith : Told → Option Status → Result Status Stop → Type 0
EndsWith read (Some status) ending = ending ≡ Ok status
EndsWith read None ending = ending ≡ Err (stops.Fault (faults.Read read))

abbrev pub EndsBy : Stop → Stop → Told → Result SelectReport ToolFault → Option Status → Result Status Stop → Type 0
EndsBy written made read (Ok report) status ending = EndsWith read status ending
EndsBy written made read (Err fault) status ending = EndsAfterFault read written made (Some fault) ending

abbrev pub EndsSelected : Wanted → Stop → Stop → Selected → Result Status Stop → Type 0
EndsSelected wanted written made s ending = EndsBy written made s.read s.outcome (selected_status wanted s) ending

-- what is left once the file is settled
abbrev pub LeavesSelected : Wanted → List ℕ → ℕ → ℕ → (List ℕ → Type 0) → Result SelectedFile Fault → Texts → Texts → Type 0
LeavesSelected wanted out old now is (Ok file) texts new =
    SettlesOut out (old + selected_faults file.selected.outcome file.selected.look) now is (keeps_selected wanted file.selected) texts new
LeavesSelected wanted out old now is (Err fault) texts new = WritesOut out old now is (Err (stops.Fault fault)) texts new

-- ---- lists of which a line is none

-- what was read says nothing of a list
abbrev pub SaysNone : {A : Type 0} → (List ℕ → Option A) → List ℕ → Result (ReadList A) Unlisted → Type 0
SaysNone reads text (Ok list) = Unit {0}
SaysNone reads text (Err (unlisted.Line name line expected)) = all_read reads (entries_in text) ≡ None
SaysNone reads text (Err (unlisted.Fault fault)) = Unit {0}

-- it was read under the word, which names a list
abbrev pub ReadsNoList : {A : Type 0} → (List ℕ → Option A) → Option Texts → Option (List ℕ) → Option (List ℕ) → Type 0
ReadsNoList reads held standard None = ⊥
ReadsNoList reads held standard (Some name) =
    (text : List ℕ) × ReadsText held standard name text × (all_read reads (entries_in text) ≡ None)

-- standard input is there, where it is read
abbrev pub ReadsNone : {A : Type 0} → (List ℕ → Option A) → Option Texts → Option (List ℕ) → Option (List ℕ) → Type 0
    → Result (Option (ReadList A)) Unlisted → Type 0
ReadsNone reads held standard name there (Ok list) = Unit {0}
ReadsNone reads held standard name there (Err (unlisted.Line of line expected)) = ReadsNoList reads held standard name × there
ReadsNone reads held standard name there (Err (unlisted.Fault fault)) = Unit {0}

-- so it is of one of two lists
abbrev pub ReadsNeither : Option Texts → Option (List ℕ) → Option (List ℕ) → Option (List ℕ) → Option (List ℕ) → Type 0 → Type 0
    → Result Lists Unlisted → Type 0
ReadsNeither held standard left works places first second (Ok lists) = Unit {0}
ReadsNeither held standard left works places first second (Err (unlisted.Line of line expected)) =
    (ReadsNoList number_in held standard works × first) ⊎ (ReadsNoList place_in held left places × second)
ReadsNeither held standard left works places first second (Err (unlisted.Fault fault)) = Unit {0}

-- ---- what was seen of the transmission

-- what is asked of it, by a view that has seen nothing so far
abbrev pub asked_by : {C : Type 0} → Limits → Wanted → (C → Choice) → SelectView C → Asking
asked_by limits wanted choice view = record {
  limits = limits;
  wanted = wanted;
  moment = view.created;
  choice = choice view.choice.now;
  numbers = numbers_sought view.sought;
  places = places_sought view.sought;
}

-- the text is accepted as a transmission of which it is known whether it has each of what is asked
pub record SeesAll (a : Asking) (text : List ℕ) (look : Look) (same missing found empty : Bool) : Type 0 where
  pub value : TransmissionValue
  pub count : ℕ
  pub accepted : IsAccepted a.limits text value count
  pub after : Option (List ℕ)
  pub looked : IsLook (Some (drop count text)) after look
  pub moment : same ≡ is_created_at a.moment value.opening
  pub lacks : missing ≡ is_missing a.numbers a.places value
  pub finds : found ≡ any_from a.wanted.fail_on (chosen_of a.choice (placed value))
  pub none : empty ≡ (selected_count a.choice value == 0)

-- or it is refused or truncated, where the bytes of the input are known
abbrev pub SeesBy : Asking → Option (List ℕ) → Result SelectReport ToolFault → Look → Bool → Bool → Bool → Bool → Type 0
SeesBy a left (Ok report) look same missing found empty = IfSome left (λ text. SeesAll a text look same missing found empty)
SeesBy a left (Err (tool_faults.Refused refusal)) look same missing found empty = IfSome left (λ text. IsRefused a.limits text refusal)
SeesBy a left (Err (tool_faults.Truncated records)) look same missing found empty = IfSome left (λ text. IsTruncated a.limits text records)
SeesBy a left (Err (tool_faults.Limit limit)) look same missing found empty = ⊥
SeesBy a left (Err fault) look same missing found empty = Unit {0}

abbrev pub SeesSelected : Asking → Option (List ℕ) → Selected → Type 0
SeesSelected a left s = SeesBy a left s.outcome s.look s.is_same_moment s.is_missing s.found s.is_empty

-- ---- what is told of it

-- the lines say how it ended: not where its moment isn't its own, or something follows the transmission where nothing may, or a finding is
-- unwanted
abbrev pub has_lines : Wanted → Selected → Bool
has_lines wanted s = not (is_ok s.outcome) || (not s.is_same_moment && is_good (good_status wanted s.look s.found))

-- all of that was seen of the text's transmission, and it is known where those of its transactions stand that are sought
pub record TellsAll (a : Asking) (text : List ℕ) (report : SelectReport) (look : Look) (same missing found empty : Bool) (sought : Sought)
    : Type 0 where
  pub seen : SeesAll a text look same missing found empty
  pub reported : report ≡ select_report a.choice seen.value
  pub numbers_are : numbers_sought sought ≡ a.numbers
  pub places_are : places_sought sought ≡ a.places
  pub knows : Knows (placed seen.value) sought

abbrev pub TellsBy : Asking → Option (List ℕ) → Result SelectReport ToolFault → Look → Bool → Bool → Bool → Bool → Sought → Type 0
TellsBy a left (Ok report) look same missing found empty sought =
    IfSome left (λ text. TellsAll a text report look same missing found empty sought)
TellsBy a left (Err fault) look same missing found empty sought = SeesBy a left (Err fault) look same missing found empty

abbrev pub TellsSelected : Asking → Option (List ℕ) → Selected → Sought → Type 0
TellsSelected a left s sought = TellsBy a left s.outcome s.look s.is_same_moment s.is_missing s.found s.is_empty sought

-- the texts of the lists say these numbers and places, each of which is sought
pub record ListsSay (numbers : Option (List (List ℕ))) (places : Option (List (ℕ × ℕ))) (lists : Lists) (of_works : Option (List (List ℕ)))
    (of_places : Option (List (ℕ × ℕ))) : Type 0 where
  pub numbers_say : SayValues number_in numbers (option_map (λ l. l.text.items) lists.works)
  pub places_say : SayValues place_in places (option_map (λ l. l.text.items) lists.places)
  pub numbers_in : AreAllIn bytes_eq of_works numbers
  pub places_in : AreAllIn same_place of_places places

-- what is asked, with the lists as they say it
abbrev pub asking_with : Asking → Option (List (List ℕ)) → Option (List (ℕ × ℕ)) → Asking
asking_with a numbers places = record {
  limits = a.limits;
  wanted = a.wanted;
  moment = a.moment;
  choice = a.choice;
  numbers = numbers;
  places = places;
}
