-- What is sought in a transmission while its transactions are read.
use Rattle.std.specs.Prelude.{◌≡◌, ℕ, ◌<◌, ◌^◌, ◌==◌, ◌||◌, Bool, false, not, length, map, List, Option, Some, None, option_map, slice_index_or, if◌then◌else◌}
use Rattle.std.specs.List.{IsDistinct, list_any}
use Rattle.std.specs.List.Sorted.{IsNonDecreasingBy}
use Rattle.std.specs.Option.{option_map_or}
use Rattle.std.specs.Str.{bytes_eq}
use Rattle.cwr_transform.specs.declared.sought.Sought.{Sought}
use Rattle.cwr_transform.specs.declared.sought.SoughtNumbers.{SoughtNumbers}
use Rattle.cwr_transform.specs.declared.sought.SoughtPlaces.{SoughtPlaces}
use Rattle.cwr_transform.specs.Format.Missing.{Placed, numbers_of, places_of, same_place}
use Rattle.cwr_transform.specs.Steps.Found.{HasCounted, HasPlaced, counted_at, place_at}

-- Of each value of a list, which has it once, it is noted whether it is one of these.
pub record AreNoted {A : Type 0} (same : A → A → Bool) (listed : List A) (noted : List Bool) (found : List A) : Type 0 where
  pub distinct : IsDistinct same listed
  pub sized : length noted ≡ length listed
  pub right : (i : ℕ) (d : A) → i < length listed → slice_index_or noted i false ≡ list_any (same (slice_index_or listed i d)) found

-- a number is noted as found where some count isn't 0
abbrev pub noted_numbers : SoughtNumbers → List Bool
noted_numbers s = map (λ first. not (first == 0)) s.firsts.items

-- each value of a list is there once, where there is a list
abbrev pub AreOnce : {A : Type 0} → (A → A → Bool) → Option (List A) → Type 0
AreOnce same None = Unit {0}
AreOnce same (Some listed) = IsDistinct same listed

-- so are the numbers of the list, where there is one, and the places
abbrev pub NotesNumbers : Option (List (List ℕ)) → List Placed → Option SoughtNumbers → Type 0
NotesNumbers None ps None = Unit {0}
NotesNumbers None ps (Some s) = ⊥
NotesNumbers (Some listed) ps None = ⊥
NotesNumbers (Some listed) ps (Some s) = (s.listed.now ≡ listed) × AreNoted bytes_eq listed (noted_numbers s) (numbers_of ps)

abbrev pub NotesPlaces : Option (List (ℕ × ℕ)) → List Placed → Option SoughtPlaces → Type 0
NotesPlaces None ps None = Unit {0}
NotesPlaces None ps (Some s) = ⊥
NotesPlaces (Some listed) ps None = ⊥
NotesPlaces (Some listed) ps (Some s) = (s.listed.now ≡ listed) × AreNoted same_place listed s.found.items (places_of ps)

-- The numbers of the transactions so far are these, and their places these; the next one stands at that place of that group, if no group opens
-- before it. It is known where each stands that has a number of the list.
pub record HasFound (listed numbers : List (List ℕ)) (places : List (ℕ × ℕ)) (group place : ℕ) (s : SoughtNumbers) : Type 0 where
  pub count_is : s.count ≡ length numbers
  pub even : length places ≡ length numbers
  pub counted : HasCounted bytes_eq listed numbers s.firsts.items s.further.items
  pub placed : HasPlaced places group place s.starts.items

-- so it is where memory was never refused, of no more transactions than there can be
abbrev pub has_found : List (List ℕ) → List (List ℕ) → List (ℕ × ℕ) → ℕ → ℕ → SoughtNumbers → Type 0
has_found listed numbers places group place s =
    s.lacks_memory ≡ false → length numbers < 2 ^ 31 → HasFound listed numbers places group place s

-- and where there is a list
abbrev pub FindsNumbers : Option (List (List ℕ)) → ℕ → ℕ → List Placed → Option SoughtNumbers → Type 0
FindsNumbers (Some listed) group place ps (Some s) = has_found listed (numbers_of ps) (places_of ps) group place s
FindsNumbers listed group place ps s = Unit {0}

-- both are noted
pub record HasNoted (numbers : Option (List (List ℕ))) (places : Option (List (ℕ × ℕ))) (group place : ℕ) (ps : List Placed) (s : Sought)
    : Type 0 where
  pub numbers_are : NotesNumbers numbers ps s.numbers
  pub places_are : NotesPlaces places ps s.places
  pub found : FindsNumbers numbers group place ps s.numbers

-- the lists
abbrev pub numbers_sought : Sought → Option (List (List ℕ))
numbers_sought s = option_map (λ n. n.listed.now) s.numbers

abbrev pub places_sought : Sought → Option (List (ℕ × ℕ))
places_sought s = option_map (λ p. p.listed.now) s.places

-- memory was refused
abbrev pub lacks_memory : Sought → Bool
lacks_memory s = option_map_or (λ n. n.lacks_memory) s.numbers false

-- one of these isn't noted as found
abbrev pub lacks_noted : List Bool → Bool
lacks_noted noted = list_any (λ found. not found) noted

abbrev pub lacks_number : Option SoughtNumbers → Bool
lacks_number None = false
lacks_number (Some s) = lacks_noted (noted_numbers s)

abbrev pub lacks_place : Option SoughtPlaces → Bool
lacks_place None = false
lacks_place (Some s) = lacks_noted s.found.items

abbrev pub lacks_sought : Sought → Bool
lacks_sought s = lacks_number s.numbers || lacks_place s.places

-- ---- where those stand that have a number

-- where the first one stands, by its count; 0 stands for none
abbrev pub first_place : (ℕ → ℕ × ℕ) → ℕ → Option (ℕ × ℕ)
first_place at first = if first == 0 then None else Some (at first)

-- it can be told where transactions stand
pub record CanPlace (s : SoughtNumbers) : Type 0 where
  pub rises : IsNonDecreasingBy (λ x. x) s.starts.items
  pub few : length s.starts.items < 2 ^ 32
  pub sorted : IsNonDecreasingBy (λ f. f.number) s.further.items

-- no transaction comes any more, and nothing was told
pub record HasEnded (s : SoughtNumbers) : Type 0 where
  pub sorted : IsNonDecreasingBy (λ f. f.number) s.further.items
  pub sized : length s.told.items ≡ length s.listed.now
  pub unset : (i : ℕ) → i < length s.listed.now → slice_index_or s.told.items i false ≡ false

-- the same was found
pub record SameFound (old new : SoughtNumbers) : Type 0 where
  pub listed : new.listed ≡ old.listed
  pub firsts : new.firsts ≡ old.firsts
  pub further : new.further ≡ old.further
  pub starts : new.starts ≡ old.starts

-- the places of the transactions that have the number at that place among those of the list
abbrev pub places_found : SoughtNumbers → ℕ → List (ℕ × ℕ)
places_found s at = map (place_at s.starts.items) (counted_at s.firsts.items s.further.items at)
