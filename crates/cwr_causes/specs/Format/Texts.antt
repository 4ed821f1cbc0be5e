-- Bytes as people are shown them, and what begins a line of an explanation.
use Rattle.std.specs.Prelude.{ℕ, ◌-◌, ◌^◌, ◌==◌, ◌&&◌, nat_le, true, false, List, [], ◌∷◌, ◌++◌, codes, decimal, length}
use Rattle.std.specs.Prelude.{take, flat_map, if◌then◌else◌}
use Rattle.std.specs.List.{concat}
use Rattle.std.specs.Fmt.{digits, format_spec, padded, padded_integral}
use Rattle.cwr_fields.specs.Format.Bytes.{is_spaces, trimmed}

-- two spaces, and what the line says, in ten characters
unfoldable pub label_words : List ℕ → List ℕ
label_words label = codes "  " ++ padded (format_spec 32 1 0 10 (2 ^ 64 - 1)) label

-- a byte in two digits of sixteen
abbrev pub hex_words : ℕ → List ℕ
hex_words b = padded_integral (format_spec 32 0 4 2 (2 ^ 64 - 1)) false [] (digits 16 true b)

-- a byte as it is where it's printable, and else by its number
abbrev pub byte_words : ℕ → List ℕ
byte_words b =
    if b == 34 then codes "\\\""
    else (if b == 92 then codes "\\\\" else (if nat_le 32 b && nat_le b 126 then b ∷ [] else codes "\\x" ++ hex_words b))

-- bytes between quotes
unfoldable pub quoted_words : List ℕ → List ℕ
quoted_words bytes = concat (codes "\"" ∷ flat_map byte_words bytes ∷ codes "\"" ∷ [])

-- how many spaces there are
unfoldable pub space_words : ℕ → List ℕ
space_words n = if n == 1 then codes "1 space" else decimal n ++ codes " spaces"

-- the spaces that fill up a cell, if there are some
unfoldable pub filling_words : ℕ → List ℕ
filling_words n = if n == 0 then [] else codes " and " ++ space_words n

-- a cell: what stands in it, and how many spaces fill it up
unfoldable pub cell_words : List ℕ → List ℕ
cell_words cell =
    if is_spaces cell then space_words (length cell)
    else quoted_words (trimmed cell) ++ filling_words (length cell - length (trimmed cell))

-- what bytes begin with: of more than 24 the first ones
unfoldable pub beginning_words : List ℕ → List ℕ
beginning_words bytes =
    if nat_le (length bytes) 24 then quoted_words bytes else quoted_words (take 24 bytes) ++ codes " and more"
