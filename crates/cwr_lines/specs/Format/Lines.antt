-- The lines of a text, the row that a line represents, and the cells that a line is cut into.
use Rattle.std.specs.Prelude.{◌≡◌, ℕ, ◌-◌, ◌≤◌, Bool, false, not, ◌||◌, ◌==◌, nat_lt, IsFalse, List, [], ◌∷◌, ◌++◌, length, map}
use Rattle.std.specs.Prelude.{take, drop, Option, Some, None, if◌then◌else◌}
use Rattle.std.specs.List.{list_any, slice_split}
use Rattle.std.specs.Str.{bytes_eq}
use Rattle.cwr_fields.specs.Format.Bytes.{is_spaces, trimmed, filled}
use Rattle.cwr_fields.specs.declared.kinds.Kind.{Kind}
use Rattle.cwr_fields.specs.Format.Kinds.{kind_of}
use Rattle.cwr_fields.specs.Format.Layouts.{layout, line_width}
use Rattle.cwr_lines.specs.Format.Records.{Row, full_line}

-- a line feed is 10, and a carriage return 13
abbrev pub is_lf : ℕ → Bool
is_lf b = b == 10

-- the most bytes that a line may have before its line feed
abbrev pub longest_line : ℕ
longest_line = 1024

-- without one carriage return, where the line ends with one
abbrev pub without_cr : List ℕ → List ℕ
without_cr line = if bytes_eq (drop (length line - 1) line) (13 ∷ []) then take (length line - 1) line else line

-- The line represents the row: it has no line feed and isn't too long, and but for trailing spaces and one carriage
-- return at its end it is the row's full line.
abbrev pub IsLineOf : Row → List ℕ → Type 0
IsLineOf row line =
    IsFalse (list_any is_lf line) × (length line ≤ longest_line) × (trimmed (without_cr line) ≡ trimmed (full_line row))

-- with a line feed added where the text isn't empty and doesn't end with one
abbrev pub closed : List ℕ → List ℕ
closed text = if bytes_eq (drop (length text - 1) text) (10 ∷ []) || (length text == 0) then text else text ++ 10 ∷ []

-- what stands before each line feed
abbrev pub raw_lines : List ℕ → List (List ℕ)
raw_lines text = let parts = slice_split is_lf text in take (length parts - 1) parts

-- the line is too long
abbrev pub is_too_long : List ℕ → Bool
is_too_long line = nat_lt longest_line (length line)

-- the bytes of a line that are judged
abbrev pub line_body : List ℕ → List ℕ
line_body line = if is_too_long line then take longest_line line else without_cr line

-- the text in pieces of these widths
abbrev pub pieces : List ℕ → List ℕ → List (List ℕ)
pieces [] text = []
pieces (w ∷ widths) text = take w text ∷ pieces widths (drop w text)

-- the kind that the first three bytes name
abbrev pub body_kind : List ℕ → Option Kind
body_kind body = kind_of (take 3 (filled 3 body))

-- the cells of a line of the kind, filled up with spaces; a line of unknown kind has one cell, its first three bytes
abbrev pub cells_as : Option Kind → List ℕ → List (List ℕ)
cells_as None body = take 3 (filled 3 body) ∷ []
cells_as (Some this_kind) body = pieces (map (λ f. f.width) (layout this_kind)) (filled (line_width this_kind) body)

-- what stands after the last field is bad: it isn't all spaces, or the line is too long; a line of unknown kind has none
abbrev pub excess_as : Option Kind → Bool → List ℕ → Bool
excess_as None too_long body = false
excess_as (Some this_kind) too_long body = too_long || not (is_spaces (drop (line_width this_kind) body))

-- the kind of a line
abbrev pub line_kind : List ℕ → Option Kind
line_kind line = body_kind (line_body line)

-- the cells that a line is cut into
abbrev pub line_cells : List ℕ → List (List ℕ)
line_cells line = cells_as (line_kind line) (line_body line)

-- the excess of the line is bad
abbrev pub has_bad_excess : List ℕ → Bool
has_bad_excess line = excess_as (line_kind line) (is_too_long line) (line_body line)
