-- What a selection writes of a text, and how it ends.
use Rattle.std.specs.Prelude.{◌≡◌, ◌≢◌, ◌⊎◌, ◌<◌, ◌&&◌, ℕ, Bool, true, false, not, if◌then◌else◌, List, [], ◌∷◌, drop, length, codes, Option, Some, None, IfSome, IsTrue, option_map, unwrap_or, Result, Ok, Err}
use Rattle.std.specs.Char.{is_ascii_digit}
use Rattle.std.specs.List.{list_all}
use Rattle.std.specs.Option.{option_map_or}
use Rattle.cwr_moments.specs.declared.moments.Moment.{Moment}
use Rattle.cwr_shape.specs.declared.limits.Limits.{Limits}
use Rattle.cwr_values.specs.Format.Values.{TransmissionValue}
use Rattle.cwr_judge.specs.declared.refusals.Refusal.{Refusal}
use Rattle.cwr_judge.specs.Format.Ends.{IsAccepted, IsRefused, IsTruncated}
use Rattle.cwr_tools.specs.Format.Watching.{any_from}
use Rattle.cwr_select.specs.declared.criteria.ByKind.{ByKind}
use Rattle.cwr_select.specs.Format.Criteria.{has_kind, has_number, has_party, has_place, significant}
use Rattle.cwr_select.specs.declared.changes.Changes.{Changes}
use Rattle.cwr_select.specs.Format.Selections.{Choice, selected_count}
use Rattle.cwr_select.specs.Format.Sent.{sent_text}
use Rattle.cwr_endings.specs.declared.endings.Status.{Status}
use Rattle.cwr_endings.specs.declared.endings.Status.TheVariants as statuses
use Rattle.cwr_endings.specs.declared.endings.Wanted.{Wanted}
use Rattle.cwr_endings.specs.declared.stops.Stop.{Stop}
use Rattle.cwr_endings.specs.Format.Endings.{IsNoInput, WritesOut}
use Rattle.cwr_files.specs.Format.Files.{Same, Texts}
use Rattle.cwr_files.specs.Format.Inputs.{IfRead}
use Rattle.cwr_files.specs.Format.NewFiles.{HoldsNew}
use Rattle.cwr_transform.specs.declared.selections.Selection.{Selection}
use Rattle.cwr_transform.specs.Format.Lists.{IsListed, IsNoList, number_in, place_in}
use Rattle.cwr_transform.specs.Format.Missing.{chosen_of, is_created_at, is_missing, placed}

-- ---- which transactions

-- those that have one of these numbers, one of these places, one of the places that are answered so, one of these kinds, and that name the
-- party of that number, each where it is asked for
abbrev pub all_of : Option (List (List ℕ)) → Option (List (ℕ × ℕ)) → Option (List (ℕ × ℕ)) → Option ByKind → Option (List ℕ) → Choice
all_of numbers places answered kinds party group place t =
    option_map_or (λ list. has_number list t) numbers true
    && (option_map_or (λ list. has_place list group place) places true
    && (option_map_or (λ list. has_place list group place) answered true
    && (option_map_or (λ by. has_kind by t) kinds true && option_map_or (λ number. has_party number t) party true)))

-- or all others
abbrev pub asked_choice : Bool → Option (List (List ℕ)) → Option (List (ℕ × ℕ)) → Option (List (ℕ × ℕ)) → Option ByKind
    → Option (List ℕ) → Choice
asked_choice others numbers places answered kinds party group place t =
    if others then not (all_of numbers places answered kinds party group place t)
    else all_of numbers places answered kinds party group place t

-- ---- what is written

-- The text is the canonical one of what is selected of a transmission, with the changes, and something is. Where what
-- is left of the input is known, that is accepted as the transmission, and nothing follows it there where nothing may.
pub record IsSelectionFrom (limits : Limits) (whole : Bool) (changes : Changes) (choice : Choice) (left : Option (List ℕ))
    (text : List ℕ) : Type 0 where
  pub value : TransmissionValue
  pub some : 0 < selected_count choice value
  pub text_is : text ≡ sent_text changes choice value
  pub from : IfSome left (λ known. (n : ℕ) × IsAccepted limits known value n × (whole ≡ true → drop n known ≡ []))

-- ---- how it ends

-- A selection ends well only where there is such a text.
abbrev pub EndsAsSelection : Limits → Bool → Changes → Choice → Option (List ℕ) → Result Status Stop → Type 0
EndsAsSelection limits whole changes choice left (Ok statuses.Good) =
    (text : List ℕ) × IsSelectionFrom limits whole changes choice left text
EndsAsSelection limits whole changes choice left (Ok statuses.Refused) = Unit {0}
EndsAsSelection limits whole changes choice left (Ok statuses.CommandLine) = Unit {0}
EndsAsSelection limits whole changes choice left (Ok statuses.Fault) = ⊥
EndsAsSelection limits whole changes choice left (Err stop) = Unit {0}

-- ---- by what the words name

-- The text is that of what is selected of the transmission of the file: by the numbers of a list where one is named, by the places of one
-- where one is, by these places where answers ask for some, by kind and party.
pub record IsSelectionAt (s : Selection) (answered : Option (List (ℕ × ℕ))) (held : Option Texts) (standard : Option (List ℕ)) (text : List ℕ) : Type 0 where
  pub numbers : Option (List (List ℕ))
  pub places : Option (List (ℕ × ℕ))
  pub by_numbers : IsListed number_in held standard (option_map (λ name. name.now) s.works) numbers
  pub by_places : IsListed place_in held standard (option_map (λ name. name.now) s.places) places
  pub of : IfRead held standard (option_map (λ name. name.now) s.file) (λ known.
      IsSelectionFrom s.limits s.wanted.whole s.changes
      (asked_choice s.others numbers places answered s.kinds (option_map (λ number. significant number.now) s.party)) (Some known) text)

-- it ends well only where there is one
abbrev pub EndsAsSelectionAt : Selection → Option (List (ℕ × ℕ)) → Option Texts → Option (List ℕ) → Result Status Stop → Type 0
EndsAsSelectionAt s answered held standard (Ok statuses.Good) = (text : List ℕ) × IsSelectionAt s answered held standard text
EndsAsSelectionAt s answered held standard (Ok statuses.Refused) = Unit {0}
EndsAsSelectionAt s answered held standard (Ok statuses.CommandLine) = Unit {0}
EndsAsSelectionAt s answered held standard (Ok statuses.Fault) = ⊥
EndsAsSelectionAt s answered held standard (Err stop) = Unit {0}

-- What a run leaves that selects to the file of that name: what one does that writes it; or, where it is refused since something of the lists
-- is missing, the file holds a text that is so, and nothing else changed.
abbrev pub WritesSelection : List ℕ → ℕ → ℕ → (List ℕ → Type 0) → Result Status Stop → Texts → Texts → Type 0
WritesSelection out old now is ending texts new =
    WritesOut out old now is ending texts new ⊎ ((ending ≡ Ok statuses.Refused) × HoldsNew out is texts new)

-- a run that writes a file leaves it or nothing, and one that writes to standard output changes nothing
abbrev pub LeavesSelection : Option (List ℕ) → ℕ → ℕ → (List ℕ → Type 0) → Result Status Stop → Texts → Texts → Type 0
LeavesSelection None old now is ending texts new = Same texts new
LeavesSelection (Some out) old now is ending texts new = WritesSelection out old now is ending texts new

-- ---- its status

-- the moment that isn't to be that of the input: the one at which a file is created
abbrev pub other_moment : Option (List ℕ) → Changes → Option Moment
other_moment None changes = None
other_moment (Some out) changes = changes.created

-- what is asked of a selection: within which limits, what is wanted, at which moment the input may not have been created, which transactions,
-- and which numbers and places some transaction is to have
pub record Asking : Type 0 where
  pub limits : Limits
  pub wanted : Wanted
  pub moment : Option Moment
  pub choice : Choice
  pub numbers : Option (List (List ℕ))
  pub places : Option (List (ℕ × ℕ))

-- A transmission that takes the text's first n bytes has all of that: it was created at another moment, something is selected, nothing of the
-- lists is missing, nothing follows where nothing may, and no finding in what is selected is unwanted.
pub record HasAsked (a : Asking) (text : List ℕ) (v : TransmissionValue) (n : ℕ) : Type 0 where
  pub other : is_created_at a.moment v.opening ≡ false
  pub some : 0 < selected_count a.choice v
  pub all : is_missing a.numbers a.places v ≡ false
  pub whole : a.wanted.whole ≡ true → drop n text ≡ []
  pub calm : any_from a.wanted.fail_on (chosen_of a.choice (placed v)) ≡ false

-- or it was, and hasn't the rest
pub record LacksAsked (a : Asking) (text : List ℕ) (v : TransmissionValue) (n : ℕ) : Type 0 where
  pub other : is_created_at a.moment v.opening ≡ false
  pub lacks : (selected_count a.choice v ≡ 0) ⊎ ((is_missing a.numbers a.places v ≡ true)
      ⊎ (((a.wanted.whole ≡ true) × (drop n text ≢ [])) ⊎ (any_from a.wanted.fail_on (chosen_of a.choice (placed v)) ≡ true)))

-- A selection of the text ends well where that begins with a transmission within the limits that has all that is asked, and as refused where
-- it has not, or where the text is refused or truncated; and as words do that ask for nothing where it was created at the moment that is given.
abbrev pub IsSelectStatus : Asking → List ℕ → Status → Type 0
IsSelectStatus a text statuses.Good = (v : TransmissionValue) × (n : ℕ) × IsAccepted a.limits text v n × HasAsked a text v n
IsSelectStatus a text statuses.Refused =
    ((refusal : Refusal) × IsRefused a.limits text refusal) ⊎ (((records : ℕ) × IsTruncated a.limits text records)
    ⊎ ((v : TransmissionValue) × (n : ℕ) × IsAccepted a.limits text v n × LacksAsked a text v n))
IsSelectStatus a text statuses.CommandLine =
    (v : TransmissionValue) × (n : ℕ) × IsAccepted a.limits text v n × (is_created_at a.moment v.opening ≡ true)
IsSelectStatus a text statuses.Fault = ⊥

-- so it ends where the bytes of the input are known
abbrev pub HasSelectStatus : Asking → Option (List ℕ) → Result Status Stop → Type 0
HasSelectStatus a left (Ok status) = IfSome left (λ text. IsSelectStatus a text status)
HasSelectStatus a left (Err stop) = Unit {0}

-- ---- its status, by what the words name

-- what is asked of the transmission of the file, where the lists say this
abbrev pub asking_of : Selection → Option (List (ℕ × ℕ)) → Option (List (List ℕ)) → Option (List (ℕ × ℕ)) → Asking
asking_of s answered numbers places = record {
  limits = s.limits;
  wanted = s.wanted;
  moment = other_moment (option_map (λ name. name.now) s.out) s.changes;
  choice = asked_choice s.others numbers places answered s.kinds (option_map (λ number. significant number.now) s.party);
  numbers = numbers;
  places = places;
}

pub record IsSelectStatusAt (s : Selection) (answered : Option (List (ℕ × ℕ))) (held : Option Texts) (standard : Option (List ℕ))
    (status : Status) : Type 0 where
  pub numbers : Option (List (List ℕ))
  pub places : Option (List (ℕ × ℕ))
  pub by_numbers : IsListed number_in held standard (option_map (λ name. name.now) s.works) numbers
  pub by_places : IsListed place_in held standard (option_map (λ name. name.now) s.places) places
  pub of : IfRead held standard (option_map (λ name. name.now) s.file)
      (λ text. IsSelectStatus (asking_of s answered numbers places) text status)

-- the number is no party's: it isn't digits, or all of them are zeros
abbrev pub IsNoParty : Option (List ℕ) → Type 0
IsNoParty None = ⊥
IsNoParty (Some number) = (0 < length (significant number)) × IsTrue (list_all is_ascii_digit number) → ⊥

-- Words that ask for nothing have a list with a line that says nothing of it, or a party's number that is none; or the moment at which the
-- transmission was created.
abbrev pub HasSelectStatusAt : Selection → Option (List (ℕ × ℕ)) → Option Texts → Option (List ℕ) → Result Status Stop → Type 0
HasSelectStatusAt s answered held standard (Ok statuses.CommandLine) =
    IsSelectStatusAt s answered held standard statuses.CommandLine
    ⊎ (IsNoParty (option_map (λ number. number.now) s.party)
    ⊎ (IsNoList number_in held standard (option_map (λ name. name.now) s.works)
    ⊎ IsNoList place_in held standard (option_map (λ name. name.now) s.places)))
HasSelectStatusAt s answered held standard (Ok status) = IsSelectStatusAt s answered held standard status
HasSelectStatusAt s answered held standard (Err stop) = Unit {0}

-- ---- what OUT isn't

-- the words that name what is read: the transmission, standard input where no word names one, and the lists
abbrev pub words_read : Selection → List (List ℕ)
words_read s =
    let file : List ℕ = unwrap_or (option_map (λ name. name.now) s.file) (codes "-") in
    file ∷ unwrap_or (option_map (λ name. name.now) s.works) file ∷ unwrap_or (option_map (λ name. name.now) s.places) file ∷ []

-- Where a run ends well, or as refused, what lay under the name of the file that it writes, if something did, is none of what these words name.
abbrev pub IsApart : Option (List ℕ) → List (List ℕ) → Option Texts → Result Status Stop → Type 0
IsApart (Some out) words held (Ok statuses.Good) = IfSome held (IsNoInput out words)
IsApart (Some out) words held (Ok statuses.Refused) = IfSome held (IsNoInput out words)
IsApart out words held ending = Unit {0}
