-- Which lines say how a selection to a file ended.
use Rattle.std.specs.Prelude.{◌≡◌, ◌≢◌, ◌⊎◌, ℕ, Bool, false, true, List, [], drop, Option, Some, None, IfSome, option_map, Result, Ok, Err}
use Rattle.std.specs.Io.KnownBytes.{Appends}
use Rattle.cwr_values.specs.Format.Values.{TransmissionValue}
use Rattle.cwr_judge.specs.declared.refusals.Refusal.{Refusal}
use Rattle.cwr_judge.specs.Format.Ends.{IsAccepted, IsRefused, IsTruncated}
use Rattle.cwr_tools.specs.declared.verdicts.ToolFault.TheVariants as tool_faults
use Rattle.cwr_tools.specs.Format.Watching.{any_from}
use Rattle.cwr_parts.specs.Format.Outcomes.{input_line}
use Rattle.cwr_select.specs.Format.Selecting.{select_report}
use Rattle.cwr_endings.specs.declared.endings.Status.{Status}
use Rattle.cwr_endings.specs.declared.endings.Status.TheVariants as statuses
use Rattle.cwr_endings.specs.declared.stops.Stop.{Stop}
use Rattle.cwr_files.specs.Format.Files.{Texts}
use Rattle.cwr_files.specs.Format.Inputs.{IfRead}
use Rattle.cwr_transform.specs.declared.selections.Selection.{Selection}
use Rattle.cwr_transform.specs.Format.Lists.{IsListed, number_in, place_in}
use Rattle.cwr_transform.specs.Format.Missing.{chosen_of, is_created_at, placed}
use Rattle.cwr_transform.specs.Format.Selections.{Asking, asking_of}
use Rattle.cwr_transform.specs.Format.Told.{selection_told}

-- A transmission that takes the text's first n bytes was created at another moment, nothing follows it where nothing may, and no finding in
-- what is selected is unwanted; or one of these isn't so.
pub record IsWanted (a : Asking) (text : List ℕ) (v : TransmissionValue) (n : ℕ) : Type 0 where
  pub other : is_created_at a.moment v.opening ≡ false
  pub whole : a.wanted.whole ≡ true → drop n text ≡ []
  pub calm : any_from a.wanted.fail_on (chosen_of a.choice (placed v)) ≡ false

abbrev pub IsUnwanted : Asking → List ℕ → TransmissionValue → ℕ → Type 0
IsUnwanted a text v n = (is_created_at a.moment v.opening ≡ true)
    ⊎ (((a.wanted.whole ≡ true) × (drop n text ≢ [])) ⊎ (any_from a.wanted.fail_on (chosen_of a.choice (placed v)) ≡ true))

-- Of one that is wanted is told how many of its transactions are selected, and what of the lists is missing, or is there several times. Of
-- another nothing is told here.
abbrev pub IsToldOf : Asking → List ℕ → TransmissionValue → ℕ → List ℕ → Type 0
IsToldOf a text v n told =
    (IsWanted a text v n × (told ≡ selection_told (select_report a.choice v) a.numbers a.places v)) ⊎ (IsUnwanted a text v n × (told ≡ []))

-- this is told of a text: the line of what isn't accepted, or what is told of its transmission
abbrev pub IsSelectionTold : Asking → List ℕ → List ℕ → Type 0
IsSelectionTold a text told =
    ((refusal : Refusal) × IsRefused a.limits text refusal × (told ≡ input_line (tool_faults.Refused refusal)))
    ⊎ (((records : ℕ) × IsTruncated a.limits text records × (told ≡ input_line (tool_faults.Truncated records)))
    ⊎ ((v : TransmissionValue) × (n : ℕ) × IsAccepted a.limits text v n × IsToldOf a text v n told))

-- it was written after what the output had, where the run has a status and the bytes of the input are known
abbrev pub TellsSelection : Asking → Option (List ℕ) → Option (List ℕ) → Option (List ℕ) → Result Status Stop → Type 0
TellsSelection a left old new (Ok status) =
    IfSome left (λ text. (told : List ℕ) × IsSelectionTold a text told × Appends old new told)
TellsSelection a left old new (Err stop) = Unit {0}

-- so it is where a file is written
abbrev pub TellsSelectionOut : Option (List ℕ) → Asking → Option (List ℕ) → Option (List ℕ) → Option (List ℕ) → Result Status Stop → Type 0
TellsSelectionOut None a left old new ending = Unit {0}
TellsSelectionOut (Some out) a left old new ending = TellsSelection a left old new ending

-- they are handed on where such a run ends well, or as refused
abbrev pub HandsOnSelection : Option (List ℕ) → Result Status Stop → Bool → Type 0
HandsOnSelection None ending handed_on = Unit {0}
HandsOnSelection (Some out) (Ok statuses.Good) handed_on = handed_on ≡ true
HandsOnSelection (Some out) (Ok statuses.Refused) handed_on = handed_on ≡ true
HandsOnSelection (Some out) ending handed_on = Unit {0}

-- ---- by what the words name

-- so it is of the text of the file, by what the lists say
pub record IsSelectionToldAt (s : Selection) (answered : Option (List (ℕ × ℕ))) (held : Option Texts) (standard : Option (List ℕ))
    (old new : Option (List ℕ)) : Type 0 where
  pub numbers : Option (List (List ℕ))
  pub places : Option (List (ℕ × ℕ))
  pub by_numbers : IsListed number_in held standard (option_map (λ name. name.now) s.works) numbers
  pub by_places : IsListed place_in held standard (option_map (λ name. name.now) s.places) places
  pub of : IfRead held standard (option_map (λ name. name.now) s.file) (λ text. (told : List ℕ)
      × IsSelectionTold (asking_of s answered numbers places) text told × Appends old new told)

-- Where a file is written a run that ends well, or as refused, has written those lines. So has one that ends as words do that ask for nothing,
-- or it wrote none.
abbrev pub ToldSelectionAt : Selection → Option (List (ℕ × ℕ)) → Option Texts → Option (List ℕ) → Option (List ℕ) → Option (List ℕ)
    → Result Status Stop → Type 0
ToldSelectionAt s answered held standard old new (Ok statuses.CommandLine) =
    IsSelectionToldAt s answered held standard old new ⊎ Appends old new []
ToldSelectionAt s answered held standard old new (Ok status) = IsSelectionToldAt s answered held standard old new
ToldSelectionAt s answered held standard old new (Err stop) = Unit {0}

-- so it is where one is named
abbrev pub TellsSelectionAt : Selection → Option (List (ℕ × ℕ)) → Option Texts → Option (List ℕ) → Option (List ℕ) → Option (List ℕ)
    → Option (List ℕ) → Result Status Stop → Type 0
TellsSelectionAt s answered held standard None old new ending = Unit {0}
TellsSelectionAt s answered held standard (Some out) old new ending = ToldSelectionAt s answered held standard old new ending
