-- How the bytes of a cell are shown as characters, and which bytes characters stand for. A text of JSON is in UTF-8.
use Rattle.std.specs.Prelude.{◌≡◌, ℕ, ◌+◌, ◌-◌, ◌/◌, ◌%◌, Bool, false, not, ◌&&◌, ◌||◌, ◌==◌, nat_lt, List, [], ◌∷◌}
use Rattle.std.specs.Prelude.{if◌then◌else◌}
use Rattle.std.specs.List.{flat_map}
use Rattle.std.specs.Str.{is_utf8}
use Rattle.cwr_json.specs.declared.encodings.Encoding.{Encoding}
use Rattle.cwr_json.specs.declared.encodings.Encoding.TheVariants.{Latin1, Utf8}

-- a byte from 128 on as the character of that number, U+0080 to U+00FF
abbrev pub latin_character : ℕ → List ℕ
latin_character b = (192 + b / 64) ∷ (128 + b % 64) ∷ []

-- a byte from 128 on as its escape: the character U+F780 to U+F7FF, of a private area, whose number is 63232 (U+F700) more
abbrev pub escape_character : ℕ → List ℕ
escape_character b = if nat_lt b 192 then 239 ∷ 158 ∷ b ∷ [] else 239 ∷ 159 ∷ (b - 64) ∷ []

abbrev pub high_character : Encoding → ℕ → List ℕ
high_character Latin1 b = latin_character b
high_character Utf8 b = escape_character b

-- the one character of a byte: below 128 that of its number
abbrev pub character : Encoding → ℕ → List ℕ
character enc b = if nat_lt b 128 then b ∷ [] else high_character enc b

-- each byte as a character of its own
unfoldable pub byte_by_byte : Encoding → List ℕ → List ℕ
byte_by_byte enc bytes = flat_map (character enc) bytes

-- a text in UTF-8 has an escape: a character U+F780 to U+F7FF begins with the bytes 239 and 158, or 239 and 159, and no other does
abbrev pub begins_escape : ℕ → List ℕ → Bool
begins_escape b [] = false
begins_escape b (c ∷ rest) = (b == 239) && ((c == 158) || (c == 159))

unfoldable pub has_escape : List ℕ → Bool
has_escape [] = false
has_escape (b ∷ rest) = begins_escape b rest || has_escape rest

-- bytes are characters as they stand: UTF-8 without escapes
abbrev pub are_shown_as_is : Encoding → List ℕ → Bool
are_shown_as_is Latin1 bytes = false
are_shown_as_is Utf8 bytes = is_utf8 bytes && not (has_escape bytes)

-- the characters that bytes are shown as
unfoldable pub characters : Encoding → List ℕ → List ℕ
characters enc bytes = if are_shown_as_is enc bytes then bytes else byte_by_byte enc bytes

-- characters are the bytes as they stand: those without escapes
abbrev pub are_read_as_is : Encoding → List ℕ → Bool
are_read_as_is Latin1 shown = false
are_read_as_is Utf8 shown = not (has_escape shown)

-- the characters, in UTF-8, stand for the bytes: as they stand, or each for one
abbrev pub StandFor : Encoding → List ℕ → List ℕ → Type 0
StandFor enc shown bytes = (if are_read_as_is enc shown then bytes else byte_by_byte enc bytes) ≡ shown
