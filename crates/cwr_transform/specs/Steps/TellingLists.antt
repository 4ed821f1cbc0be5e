-- What is told of the values of lists, one after another.
use Rattle.std.specs.Prelude.{◌≡◌, ℕ, ◌<◌, ◌==◌, Bool, true, if◌then◌else◌, List, [], ◌∷◌, ◌++◌, length, Option, Some, None, IfSome}
use Rattle.std.specs.List.{HoldsAt, flat_map, list_any, slice_split}
use Rattle.std.specs.Option.{option_map_or}
use Rattle.std.specs.Str.{bytes_eq}
use Rattle.cwr_devices.specs.declared.pens.Pen.{Pen}
use Rattle.cwr_devices.specs.Steps.Pens.{Adds}
use Rattle.cwr_fields.specs.Format.Bytes.{trimmed}
use Rattle.cwr_transform.specs.declared.sought.Sought.{Sought}
use Rattle.cwr_transform.specs.declared.sought.SoughtNumbers.{SoughtNumbers}
use Rattle.cwr_transform.specs.Format.Lists.{all_read, entries_of}
use Rattle.cwr_transform.specs.Format.Missing.{Placed, places_of, same_place}
use Rattle.cwr_transform.specs.Format.Told.{firsts_after, number_lines, places_with}
use Rattle.cwr_transform.specs.Steps.Sought.{AreNoted, CanPlace, places_found}

-- the lines of a value, where it didn't come before
abbrev pub lines_once : {A : Type 0} → (A → A → Bool) → (A → List ℕ) → List A → A → List ℕ
lines_once same lines before x = if list_any (same x) before then [] else lines x

-- each of these is one of the list's
abbrev pub AreIn : {A : Type 0} → (A → A → Bool) → List A → List A → Type 0
AreIn same listed [] = Unit {0}
AreIn same listed (x ∷ xs) = (list_any (λ y. same y x) listed ≡ true) × AreIn same listed xs

-- these are the lines of the numbers of the list, by what was found
abbrev pub AreLines : (List ℕ → List ℕ) → SoughtNumbers → Type 0
AreLines lines s = (number : List ℕ) (at : ℕ) → at < length s.listed.now → HoldsAt (λ y. bytes_eq y number ≡ true) s.listed.now at
    → number_lines (trimmed number) (places_found s at) ≡ lines number

-- the lines of a text, and of what follows a line
abbrev pub lines_in : List ℕ → List (List ℕ)
lines_in text = slice_split (λ b. b == 10) text

abbrev pub lines_after : Option (List ℕ) → List (List ℕ)
lines_after after = option_map_or (λ text. slice_split (λ b. b == 10) text) after []

-- Of the lines of a list these are left, and what is to be told of the whole was added up to them.
pub record TellsTo {W A : Type 0} (contents : W → Option (List ℕ)) (failures : W → ℕ) (reads : List ℕ → Option A) (same : A → A → Bool)
    (lines_of : A → List ℕ) (listed : List A) (noted : List Bool) (found : List A) (told : List ℕ) (lines : List (List ℕ)) (old new : Pen W)
    : Type 0 where
  pub before : List A
  pub left : List A
  pub read : all_read reads (entries_of lines) ≡ Some left
  pub within : AreIn same listed left
  pub noted_are : AreNoted same listed noted (found ++ before)
  pub text : List ℕ
  pub added : Adds contents failures text old new
  pub all : text ++ flat_map lines_of (firsts_after same before left) ≡ told

-- each is one of the list's, where there is one
abbrev pub AreAllIn : {A : Type 0} → (A → A → Bool) → Option (List A) → Option (List A) → Type 0
AreAllIn same None None = Unit {0}
AreAllIn same None (Some values) = ⊥
AreAllIn same (Some listed) None = ⊥
AreAllIn same (Some listed) (Some values) = AreIn same listed values

-- it is known where the transactions stand that have a number of the list, and none was told
pub record KnowsNumbers (ps : List Placed) (s : SoughtNumbers) : Type 0 where
  pub can : CanPlace s
  pub lines : AreLines (λ number. number_lines (trimmed number) (places_with number ps)) s
  pub told : AreNoted bytes_eq s.listed.now s.told.items []

-- so it is where there is a list, and of each place of one whether a transaction has it
pub record Knows (ps : List Placed) (s : Sought) : Type 0 where
  pub numbers_known : IfSome s.numbers (KnowsNumbers ps)
  pub places_known : IfSome s.places (λ p. AreNoted same_place p.listed.now p.found.items (places_of ps))
