-- What a new file keeps, and what lies under names while it is written and at its end.
use Rattle.std.specs.Prelude.{◌≡◌, ℕ, ◌+◌, ◌≤◌, ◌<◌, List, Option, Some, None, Result, Ok, Err, option_map, string_bytes}
use Rattle.cwr_devices.specs.Format.Failures.{most_failures}
use Rattle.cwr_files.specs.Format.Files.{Same, SameBut, Texts, put}
use Rattle.cwr_files.specs.Format.NewFiles.{AreTaken, IsFirstFree, LeavesNothing}
use Rattle.cwr_files.specs.declared.new_files.NewFile.{NewFile}

-- the name that it gets
abbrev pub final_name : NewFile → List ℕ
final_name made = string_bytes made.name

-- the name that it has until it is whole, where that is another one
abbrev pub name_of_part : NewFile → Option (List ℕ)
name_of_part made = option_map string_bytes made.part

-- so many names were tried, and nothing changed
abbrev pub HasTried : List ℕ → ℕ → Texts → Texts → Type 0
HasTried name tries texts new = Same texts new × AreTaken name tries texts

-- the part is being written, under the first of its names that nothing had: there may lie something now, and elsewhere what did
abbrev pub IsPartOf : List ℕ → List ℕ → Option (List ℕ) → Texts → Texts → Type 0
IsPartOf name part making texts new = IsFirstFree name part texts × SameBut part texts new × (making ≡ Some part)

-- the file is being written
pub record IsBegun (made : NewFile) (making : Option (List ℕ)) (texts new : Texts) : Type 0 where
  pub part : List ℕ
  pub called : name_of_part made ≡ Some part
  pub is_part : IsPartOf (final_name made) part making texts new

-- it is, of what lies under names now
abbrev pub HasBegun : NewFile → Option (List ℕ) → Texts → Option Texts → Type 0
HasBegun made making texts None = ⊥
HasBegun made making texts (Some new) = IsBegun made making texts new

-- What is left of the part, which lay under its name last, where so many calls may have failed.
abbrev pub IsDropped : List ℕ → ℕ → ℕ → Texts → Texts → Type 0
IsDropped part most failures texts new = SameBut part texts new
    × (failures ≤ most → failures < most_failures → new part ≡ None)

-- the part has its name, or it was dropped
abbrev pub IsFinished : {E : Type 0} → List ℕ → List ℕ → List ℕ → ℕ → ℕ → Result (Unit {0}) E → Texts → Texts → Type 0
IsFinished part name text old failures (Ok x) texts new = Same (put name (Some text) (put part None texts)) new
IsFinished part name text old failures (Err e) texts new = IsDropped part (old + 1) failures texts new

-- The file has its name, and holds the text; what lies under any other name lay there when it was begun. Or nothing is left of it, unless
-- a second call failed.
abbrev pub EndsKept : {A E : Type 0} → NewFile → List ℕ → ℕ → ℕ → Result A E → Texts → Option Texts → Type 0
EndsKept made text old failures result texts None = ⊥
EndsKept made text old failures (Ok x) texts (Some new) = Same (put (final_name made) (Some text) texts) new
EndsKept made text old failures (Err e) texts (Some new) = LeavesNothing (name_of_part made) (old + 1) failures texts new

-- nothing is left of it, unless more calls failed than these
abbrev pub EndsDropped : NewFile → ℕ → ℕ → Texts → Option Texts → Type 0
EndsDropped made most failures texts None = ⊥
EndsDropped made most failures texts (Some new) = LeavesNothing (name_of_part made) most failures texts new

-- none was taken away
abbrev pub HasKeptCount : ℕ → ℕ → Type 0
HasKeptCount old failures = failures < most_failures → old ≤ failures
