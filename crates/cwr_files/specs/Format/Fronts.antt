-- What HDR says in the first bytes of an input.
use Rattle.std.specs.Prelude.{◌≡◌, ℕ, ◌+◌, ◌<◌, Bool, ◌||◌, ◌==◌, List, codes, slice_index, slice_index_or, take, if◌then◌else◌}
use Rattle.std.specs.List.{position_or_len}
use Rattle.std.specs.Str.{bytes_eq}

-- CR and LF end a line
abbrev pub ends_line : ℕ → Bool
ends_line b = (b == 13) || (b == 10)

-- the first line: up to what ends it
abbrev pub line_of : List ℕ → List ℕ
line_of text = take (position_or_len ends_line text) text

-- the byte in place i of the character set in HDR's line, where that begins at byte 86: a space past the line's end, and in any other line
abbrev pub byte_of_set : List ℕ → ℕ → ℕ
byte_of_set line i = if bytes_eq (take 3 line) (codes "HDR") then slice_index_or line (86 + i) 32 else 32

-- the cell of the first line's character set
abbrev pub IsCharacterSetOf : List ℕ → List ℕ → Type 0
IsCharacterSetOf text cell = (i : ℕ) → i < 15 → slice_index cell i ≡ byte_of_set (line_of text) i
