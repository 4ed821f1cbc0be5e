-- The lines on a file as they are passed on: with its name before each, and without those on what is good.
use Rattle.std.specs.Prelude.{ℕ, Bool, true, false, not, ◌==◌, ◌||◌, ◌&&◌, List, [], ◌∷◌, ◌++◌, Option, None, Some, codes, if◌then◌else◌}
use Rattle.cwr_files.specs.declared.markings.Passing.{Passing}
use Rattle.cwr_files.specs.declared.markings.Passing.TheVariants.{All, Bad, Told}

-- lines with one byte more before the first of them
abbrev pub with_byte : ℕ → List (List ℕ) → List (List ℕ)
with_byte b [] = (b ∷ []) ∷ []
with_byte b (line ∷ more) = (b ∷ line) ∷ more

-- the lines of a text, each with the line feed that ends it, which the last one may lack
abbrev pub lines : List ℕ → List (List ℕ)
lines [] = []
lines (b ∷ text) = if b == 10 then (b ∷ []) ∷ lines text else with_byte b (lines text)

-- the text begins with the byte
abbrev pub begins_with : ℕ → List ℕ → Bool
begins_with b [] = false
begins_with b (first ∷ text) = first == b

-- the line is the verdict on what is good: no other begins with G
abbrev pub begins_well : List ℕ → Bool
begins_well line = begins_with 71 line

-- the line is that of a refusal, of an end that comes too early, or of a fault: it begins with R, T or FA
abbrev pub begins_badly : List ℕ → Bool
begins_badly [] = false
begins_badly (b ∷ line) = ((b == 82) || (b == 84)) || ((b == 70) && begins_with 65 line)

-- the line is passed on
abbrev pub passes : Passing → List ℕ → Bool
passes All line = true
passes Bad line = begins_badly line
passes Told line = not (begins_well line)

-- which lines are passed on after one that was: after the first bad one all are
abbrev pub after : Passing → Passing
after All = All
after Bad = All
after Told = Told

-- what stands before each line: the file's name, where there is one
abbrev pub mark : Option (List ℕ) → List ℕ
mark None = []
mark (Some name) = name ++ codes ": "

-- one line before others: with the name before it, or left out
abbrev pub line_before : Option (List ℕ) → Bool → List ℕ → List ℕ → List ℕ
line_before name true line more = (mark name ++ line) ++ more
line_before name false line more = more

-- the lines that are passed on, with the name before each
abbrev pub marked_lines : Option (List ℕ) → Passing → List (List ℕ) → List ℕ
marked_lines name passing [] = []
marked_lines name passing (line ∷ more) =
    line_before name (passes passing line) line
    (marked_lines name (if passes passing line then after passing else passing) more)

-- so are those of a text
abbrev pub marked : Option (List ℕ) → Passing → List ℕ → List ℕ
marked name passing text = marked_lines name passing (lines text)
