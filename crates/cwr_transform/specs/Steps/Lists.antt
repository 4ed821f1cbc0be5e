-- A list while its lines are read.
use Rattle.std.specs.Prelude.{◌≡◌, IfSome, ℕ, ◌==◌, Bool, nat_lt, length, List, [], ◌∷◌, ◌++◌, Option, Some, None, option_map, if◌then◌else◌}
use Rattle.std.specs.List.{IsDistinct, list_any, slice_split}
use Rattle.std.specs.Option.{option_flatten, option_map_or}
use Rattle.cwr_files.specs.Format.Files.{Texts}
use Rattle.cwr_files.specs.Format.Inputs.{is_standard}
use Rattle.cwr_files.specs.Steps.Inputs.{IsLeftOf, IsThereFor, standard_after}
use Rattle.cwr_transform.specs.Format.Lists.{IsListed, all_read, entries_in, entries_of, entry_of}

-- what a line says, if it says anything; none where that is none of a list
abbrev pub line_read : {A : Type 0} → (List ℕ → Option A) → List ℕ → Option (Option A)
line_read reads line = if nat_lt 0 (length (entry_of line)) then option_map (λ a. Some a) (reads (entry_of line)) else Some None

-- that is what the first line of a text says, if it says anything, and what follows it
pub record IsFirstOf {A : Type 0} (reads : List ℕ → Option A) (text : List ℕ) (value : Option A) (after : Option (List ℕ)) : Type 0 where
  pub line : List ℕ
  pub parts : slice_split (λ b. b == 10) text ≡ line ∷ option_map_or (λ rest. slice_split (λ b. b == 10) rest) after []
  pub says : value ≡ option_flatten (line_read reads line)

-- what lines say that come after these values
abbrev pub all_after : {A : Type 0} → (List ℕ → Option A) → List A → List (List ℕ) → Option (List A)
all_after reads before lines = option_map (λ values. before ++ values) (all_read reads (entries_of lines))

-- the text says these values of a list, where there is one
abbrev pub SayValues : {A : Type 0} → (List ℕ → Option A) → Option (List A) → Option (List ℕ) → Type 0
SayValues reads None None = Unit {0}
SayValues reads None (Some text) = ⊥
SayValues reads (Some values) None = ⊥
SayValues reads (Some values) (Some text) = all_read reads (entries_in text) ≡ Some values

-- ---- a list that is read

-- these are all bytes that lie under the name, or were on standard input
abbrev pub ReadsText : Option Texts → Option (List ℕ) → List ℕ → List ℕ → Type 0
ReadsText held standard name bytes = (left : Option (List ℕ)) × IsLeftOf held standard (Some name) left × IfSome left (λ known. bytes ≡ known)

-- standard input is there, and taken, where the word that names a list, if one does, names it
abbrev pub IsThereForList : {I : Type 0} → Option (List ℕ) → Option I → Type 0
IsThereForList None standard = Unit {0}
IsThereForList (Some name) standard = IsThereFor (is_standard (Some name)) standard

abbrev pub standard_after_list : {I : Type 0} → Option (List ℕ) → Option I → Option I
standard_after_list None standard = standard
standard_after_list (Some name) standard = standard_after (is_standard (Some name)) standard

-- the one list has just the values that the other has, and each of them once
pub record HasOnce {A : Type 0} (same : A → A → Bool) (listed values : List A) : Type 0 where
  pub members : (x : A) → list_any (λ y. same y x) values ≡ list_any (λ y. same y x) listed
  pub distinct : IsDistinct same values

-- so it is where there is a list
abbrev pub AreListedOnce : {A : Type 0} → (A → A → Bool) → Option (List A) → Option (List A) → Type 0
AreListedOnce same None None = Unit {0}
AreListedOnce same None (Some ys) = ⊥
AreListedOnce same (Some xs) None = ⊥
AreListedOnce same (Some xs) (Some ys) = HasOnce same xs ys

-- the values are what a text says
abbrev pub SaysText : {A : Type 0} → (A → A → Bool) → (List ℕ → Option A) → List ℕ → List A → Type 0
SaysText {A} same reads text values = (listed : List A) × (all_read reads (entries_in text) ≡ Some listed) × HasOnce same listed values

-- they are what the list of that name says
abbrev pub ReadsList : {A : Type 0} → (A → A → Bool) → (List ℕ → Option A) → Option Texts → Option (List ℕ) → Option (List ℕ)
    → Option (List A) → Type 0
ReadsList {A} same reads held standard name values =
    (listed : Option (List A)) × IsListed reads held standard name listed × AreListedOnce same listed values

-- and it says what the text does that was read
pub record ReadsSaid {A : Type 0} (same : A → A → Bool) (reads : List ℕ → Option A) (held : Option Texts) (standard : Option (List ℕ))
    (name : Option (List ℕ)) (values : Option (List A)) (text : Option (List ℕ)) : Type 0 where
  pub listed : Option (List A)
  pub by_name : IsListed reads held standard name listed
  pub once : AreListedOnce same listed values
  pub said : SayValues reads listed text
