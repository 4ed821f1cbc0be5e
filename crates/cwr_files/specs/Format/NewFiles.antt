-- The names of a file that isn't whole yet, and what lies under names once it is whole or given up.
use Rattle.std.specs.Prelude.{◌≡◌, ℕ, ◌<◌, ◌≤◌, ◌==◌, false, List, ◌++◌, Option, Some, None, IsSome, codes, decimal, if◌then◌else◌}
use Rattle.std.specs.Str.{bytes_eq}
use Rattle.cwr_devices.specs.Format.Failures.{most_failures}
use Rattle.cwr_files.specs.Format.Files.{Same, SameBut, Texts, Turns, put}

-- the name of the whole one and `.part`, and from the second try on its number
abbrev pub unfinished_name : List ℕ → ℕ → List ℕ
unfinished_name name tries = if tries == 0 then name ++ codes ".part" else name ++ (codes ".part" ++ decimal tries)

-- something has each name of these first tries
abbrev pub AreTaken : List ℕ → ℕ → Texts → Type 0
AreTaken name tries texts = (j : ℕ) → j < tries → IsSome (texts (unfinished_name name j))

-- something has each of the hundred names, where nothing was being written, and it is known what lay under names
abbrev pub AllTaken : List ℕ → Option (List ℕ) → Option Texts → Option Texts → Type 0
AllTaken name making held now = making ≡ None → Turns held now (λ texts new. AreTaken name 100 new)

-- the part has the first of its hundred names that nothing had
pub record IsFirstFree (name part : List ℕ) (texts : Texts) : Type 0 where
  pub tries : ℕ
  pub few : tries < 100
  pub called : part ≡ unfinished_name name tries
  pub taken : AreTaken name tries texts
  pub free : texts part ≡ None

-- under each name lies the same, but under that of the part, if there is one
abbrev pub SameButPart : Option (List ℕ) → Texts → Texts → Type 0
SameButPart None texts new = Same texts new
SameButPart (Some part) texts new = SameBut part texts new

-- Of a file that isn't whole nothing is left, unless more calls failed than these.
abbrev pub LeavesNothing : Option (List ℕ) → ℕ → ℕ → Texts → Texts → Type 0
LeavesNothing part most failures texts new = SameButPart part texts new
    × (failures ≤ most → failures < most_failures → Same texts new)

-- ---- what is left of a run that writes a file

-- the file of that name holds a text that is so, and under any other name lies what lay there before
abbrev pub HoldsNew : List ℕ → (List ℕ → Type 0) → Texts → Texts → Type 0
HoldsNew name is texts new = (text : List ℕ) × is text × Same (put name (Some text) texts) new

-- it is none of the names that the file of that name may have while it isn't whole
abbrev pub IsNoPart : List ℕ → List ℕ → Type 0
IsNoPart name n = (tries : ℕ) → bytes_eq n (unfinished_name name tries) ≡ false

-- Nothing changed, unless more calls failed than so many: then something may be left under a name of what isn't whole.
pub record LeavesAll (name : List ℕ) (most failures : ℕ) (texts new : Texts) : Type 0 where
  pub others : (n : List ℕ) → IsNoPart name n → new n ≡ texts n
  pub all : failures ≤ most → failures < most_failures → Same texts new
