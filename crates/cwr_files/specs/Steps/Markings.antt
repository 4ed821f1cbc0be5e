-- How lines are marked as they come, byte by byte.
use Rattle.std.specs.Prelude.{◌≡◌, ◌⊎◌, ℕ, ◌-◌, ◌<◌, ◌≤◌, Bool, true, false, ◌==◌, ◌||◌, ◌&&◌, List, [], ◌∷◌, ◌++◌, length, slice_index, Option, None, Some, if◌then◌else◌}
use Rattle.std.specs.Coded.{Coded-set, Unit-prop, coded_list, coded_ℕ, Π_prop}
use Rattle.std.specs.Io.KnownBytes.{Appends}
use Rattle.std.specs.List.{AllByRecursion}
use Rattle.cwr_files.specs.declared.markings.LinePart.{LinePart}
use Rattle.cwr_files.specs.declared.markings.LinePart.TheVariants.{Start, Kept, Passed, LeftOut, Cut}
use Rattle.cwr_files.specs.declared.markings.Passing.{Passing}
use Rattle.cwr_files.specs.declared.markings.Passing.TheVariants.{All, Bad, Told}
use Rattle.cwr_files.specs.Format.FileLines.{after, mark, marked}

-- where a line goes that begins with the byte
abbrev pub begun : Passing → ℕ → LinePart
begun All b = Passed
begun Told b = if b == 71 then LeftOut else Passed
begun Bad b = if (b == 82) || (b == 84) then Passed else if b == 70 then Kept else LeftOut

-- where it goes with one byte more
abbrev pub part_with : Passing → LinePart → ℕ → LinePart
part_with passing Start b = begun passing b
part_with passing Kept b = if b == 65 then Passed else LeftOut
part_with passing Passed b = Passed
part_with passing LeftOut b = LeftOut
part_with passing Cut b = Cut

-- what stands before the next byte of a line that is passed on
abbrev pub front : Option (List ℕ) → LinePart → List ℕ
front name Start = mark name
front name Kept = mark name ++ 70 ∷ []
front name part = []

-- which lines are passed on once the line goes there
abbrev pub passing_by : Passing → LinePart → Passing
passing_by passing Passed = after passing
passing_by passing part = passing

-- where the next byte goes, after a line feed and after another byte
abbrev pub part_after : ℕ → LinePart → LinePart
part_after b part = if b == 10 then Start else part

-- what is written of one byte and of those after it
abbrev pub written_by : LinePart → List ℕ → ℕ → List ℕ → List ℕ
written_by Passed before b more = before ++ b ∷ more
written_by part before b more = more

-- what is written of what comes next
abbrev pub marked_on : Option (List ℕ) → Passing → LinePart → List ℕ → List ℕ
marked_on name passing part [] = []
marked_on name passing part (b ∷ rest) =
    written_by (part_with passing part b) (front name part) b
    (marked_on name (passing_by passing (part_with passing part b)) (part_after b (part_with passing part b)) rest)

-- no byte of it ends a line
abbrev pub HasNoEnd : List ℕ → Type 0
HasNoEnd text = AllByRecursion (λ b. (b == 10) ≡ false) text

-- the first line of the text has so many bytes, with its line feed, if it has one
abbrev pub IsFirstLine : List ℕ → ℕ → Bool → Type 0
IsFirstLine text count true =
    (0 < count) × (count ≤ length text) × ((slice_index text (count - 1) == 10) ≡ true)
    × ((k : ℕ) → k < count - 1 → (slice_index text k == 10) ≡ true → ⊥)
IsFirstLine text count false =
    (count ≡ length text) × ((k : ℕ) → k < length text → (slice_index text k == 10) ≡ true → ⊥)

-- where the line goes behind so many bytes of the most that it has
abbrev pub part_behind : LinePart → ℕ → Bool → ℕ → LinePart
part_behind part most ends count = if ends && (count == most) then Start else part

-- the bytes stand in one line that goes there, and behind them it goes on, or the next one begins
abbrev pub StandsIn : LinePart → List ℕ → LinePart → Type 0
StandsIn part bytes to =
    ((to ≡ part) × HasNoEnd bytes)
    ⊎ ((to ≡ Start) × ((before : List ℕ) × HasNoEnd before × (bytes ≡ before ++ 10 ∷ [])))

-- what is written of a piece of the text, and how it goes on after that
pub record PassesOn (name : Option (List ℕ)) (before : Passing) (from : LinePart) (now : Passing) (to : LinePart)
    (old new : Option (List ℕ)) (piece : List ℕ) : Type 0 where
  pub out : List ℕ
  pub appended : Appends old new out
  pub goes : (rest : List ℕ) → marked_on name before from (piece ++ rest) ≡ out ++ marked_on name now to rest

-- the writer failed within a line, so what is written there may be cut
abbrev pub is_cut : LinePart → Bool
is_cut Cut = true
is_cut part = false

-- After what the writer had at the start it has what the one makes of any rest, up to what the other makes of that.
abbrev pub GoesOn : Option (List ℕ) → Option (List ℕ) → (List ℕ → List ℕ) → (List ℕ → List ℕ) → Type 0
GoesOn None now whole left = Unit {0}
GoesOn (Some start) None whole left = ⊥
GoesOn (Some start) (Some now) whole left = (rest : List ℕ) → start ++ whole rest ≡ now ++ left rest

pub GoesOn-prop : (start now : Option (List ℕ)) (whole left : List ℕ → List ℕ) → IsProp (GoesOn start now whole left)
GoesOn-prop None now whole left = Unit-prop
GoesOn-prop (Some start) None whole left = λ x y. absurd x
GoesOn-prop (Some start) (Some now) whole left =
    Π_prop (λ rest. Coded-set (coded_list coded_ℕ) (start ++ whole rest) (now ++ left rest))

-- the lines of the text were written, with the name before each, as far as they came
abbrev pub IsMarkedSoFar : Option (List ℕ) → Option (List ℕ) → Option (List ℕ) → Passing → List ℕ → Option (List ℕ) → Passing → LinePart
    → Type 0
IsMarkedSoFar start now name passing text name_now passing_now part =
    GoesOn start now (λ rest. marked name passing (text ++ rest)) (λ rest. marked_on name_now passing_now part rest)
