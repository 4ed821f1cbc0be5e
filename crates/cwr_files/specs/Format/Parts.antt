-- The names of the files of a split, and what lies under names once some of them are finished.
use Rattle.std.specs.Prelude.{ℕ, ◌+◌, ◌-◌, ◌^◌, List, [], ◌∷◌, ◌++◌, length, Option, Some, None}
use Rattle.std.specs.Fmt.{format_spec, styled_decimal}
use Rattle.cwr_files.specs.Format.Files.{Same, Texts, put}
use Rattle.cwr_files.specs.Format.NewFiles.{LeavesAll}
use Rattle.cwr_files.specs.Format.Stamps.{later_cells, with_created}
use Rattle.cwr_moments.specs.declared.moments.Moment.{Moment}

-- the name of a part: the prefix, and its number in eight digits
abbrev pub part_name : List ℕ → ℕ → List ℕ
part_name prefix number = prefix ++ styled_decimal (format_spec 32 0 4 8 (2 ^ 64 - 1)) number

-- the cells of the moment so many seconds after that one, if there is one
abbrev pub cells_after : Option Moment → ℕ → Option (List ℕ)
cells_after None seconds = None
cells_after (Some first) seconds = Some (later_cells first seconds)

-- the parts from the one on that is created so many seconds after that moment, each a second after the one before it
abbrev pub later_parts : Moment → ℕ → List (List ℕ) → List (List ℕ)
later_parts first seconds [] = []
later_parts first seconds (part ∷ parts) =
    with_created (later_cells first seconds) part ∷ later_parts first (seconds + 1) parts

-- the parts, of which the first is created at that moment; without one each is when the transmission was
abbrev pub created_parts : Option Moment → List (List ℕ) → List (List ℕ)
created_parts None parts = parts
created_parts (Some first) parts = later_parts first 0 parts

-- the texts where these lie under the names of the parts from that number on
abbrev pub put_parts : List ℕ → ℕ → List (List ℕ) → Texts → Texts
put_parts prefix number [] texts = texts
put_parts prefix number (part ∷ parts) texts =
    put_parts prefix (number + 1) parts (put (part_name prefix number) (Some part) texts)

-- the first parts hold these texts, and under any other name lies what lay there before
abbrev pub HoldsParts : List ℕ → List (List ℕ) → Texts → Texts → Type 0
HoldsParts prefix parts texts new = Same (put_parts prefix 1 parts texts) new

-- The first parts hold these texts, and under any other name lies what lay there before. If more calls failed than so many, something may
-- be left of the next part, under a name of what isn't whole.
abbrev pub LeavesParts : List ℕ → List (List ℕ) → ℕ → ℕ → Texts → Texts → Type 0
LeavesParts prefix parts most failures texts new =
    LeavesAll (part_name prefix (length parts + 1)) most failures (put_parts prefix 1 parts texts) new
