-- Why the cells of a refused line may stand elsewhere than in their places.
use Rattle.std.specs.Prelude.{ℕ, zero, suc, ◌+◌, ◌-◌, ◌==◌, ◌&&◌, ◌||◌, min, nat_eq, nat_le, nat_lt, bit_and, not, Bool, true, false, List, []}
use Rattle.std.specs.Prelude.{◌∷◌, ◌++◌, codes, count_by, decimal, drop, length, slice_get, take, Option, None, Some, if◌then◌else◌}
use Rattle.std.specs.Char.{is_ascii_alphanumeric}
use Rattle.std.specs.List.{concat, list_any, starts_with}
use Rattle.std.specs.Option.{option_or}
use Rattle.std.specs.Str.{bytes_eq, is_utf8}
use Rattle.cwr_fields.specs.declared.kinds.Kind.{Kind}
use Rattle.cwr_fields.specs.Format.Bytes.{trimmed}
use Rattle.cwr_fields.specs.Format.Kinds.{letters}
use Rattle.cwr_fields.specs.Format.Layouts.{FieldLayout, field_with_start, layout, line_width}
use Rattle.cwr_causes.specs.declared.shifts.Sign.{Sign}
use Rattle.cwr_causes.specs.declared.shifts.Sign.TheVariants.{GoesOn, Gap}
use Rattle.cwr_causes.specs.Format.LongLines.{long_line_words}
use Rattle.cwr_causes.specs.Format.NumbersAfter.{is_outside}
use Rattle.cwr_causes.specs.Format.Refusals.{first_kind, up_to_largest}
use Rattle.cwr_causes.specs.Format.Texts.{label_words}
use Rattle.cwr_causes.specs.Format.WrappedLines.{is_cut, is_full}
use Rattle.cwr_lines.specs.Format.Lines.{without_cr}

-- ---- characters of several bytes

-- a byte that continues a character in UTF-8
abbrev pub continues_character : ℕ → Bool
continues_character b = bit_and b 192 == 128

-- how many bytes a text in UTF-8 has beyond one for each character; none where it isn't in UTF-8
abbrev pub bytes_beyond : List ℕ → ℕ
bytes_beyond line = if is_utf8 line then count_by continues_character line else 0

-- that a line has such characters
unfoldable pub several_bytes_words : ℕ → List ℕ
several_bytes_words count =
    concat
    (label_words (codes "note") ∷ codes "the line has characters of several bytes (UTF-8), which take " ∷ decimal count
    ∷ codes " more than one each" ∷ [])

-- what that does to its cells
abbrev pub shifting_words : Bool → List ℕ
shifting_words true =
    codes ": what stands behind them is shifted, as where a line is filled up by characters; fill it up by bytes\n"
shifting_words false = codes ": if it was filled up by characters, what stands behind them is shifted\n"

unfoldable pub character_words : Kind → List ℕ → ℕ → List ℕ
character_words this_kind line count =
    several_bytes_words count ++ shifting_words (nat_lt (line_width this_kind) (length line))

-- ---- blanks that were lost

-- letters or digits
abbrev pub are_alphanumeric : Option ℕ → Option ℕ → Bool
are_alphanumeric (Some a) (Some b) = is_ascii_alphanumeric a && is_ascii_alphanumeric b
are_alphanumeric a b = false

-- a letter or a digit stands at both sides of where a field ends
abbrev pub goes_over : List ℕ → ℕ → Bool
goes_over line end = if end == 0 then false else are_alphanumeric (slice_get line (end - 1)) (slice_get line end)

-- without leading spaces
abbrev pub without_leading : List ℕ → List ℕ
without_leading [] = []
without_leading (b ∷ rest) = if b == 32 then without_leading rest else b ∷ rest

-- three spaces stand side by side
abbrev pub has_gap : List ℕ → Bool
has_gap [] = false
has_gap (b ∷ rest) = starts_with nat_eq (b ∷ rest) (codes "   ") || has_gap rest

-- a cell has text again after a gap of blanks
abbrev pub has_text_after_gap : List ℕ → Bool
has_text_after_gap cell = has_gap (trimmed (without_leading cell))

-- where a field ends
abbrev pub end_of : ℕ → ℕ → ℕ
end_of start width = up_to_largest (start + width)

-- What a field shows of lost blanks, which starts and ends there: its text goes on over its end, or it has text again after blanks.
abbrev pub sign_between : List ℕ → ℕ → ℕ → Option Sign
sign_between line start end =
    if goes_over line end then Some GoesOn
    else (if nat_le end (length line) && has_text_after_gap (take (end - start) (drop start line)) then Some Gap else None)

-- the same of one that is so wide; those of fewer than 14 bytes are often filled whole
abbrev pub sign_in : List ℕ → ℕ → ℕ → Option Sign
sign_in line start width = if nat_lt width 14 then None else sign_between line start (end_of start width)

-- a field with its place, and what it shows
abbrev pub with_sign : ℕ × FieldLayout → Option Sign → Option ((f : ℕ × FieldLayout) × Sign)
with_sign f None = None
with_sign f (Some sign) = Some (f, sign)

abbrev pub sign_of : List ℕ → Option (ℕ × FieldLayout) → Option ((f : ℕ × FieldLayout) × Sign)
sign_of line None = None
sign_of line (Some f) = with_sign f (sign_in line f.0 f.1.width)

-- the first of a kind's first fields, so many, that shows it
unfoldable pub first_sign : Kind → List ℕ → ℕ → Option ((f : ℕ × FieldLayout) × Sign)
first_sign this_kind line zero = None
first_sign this_kind line (suc n) = option_or (first_sign this_kind line n) (sign_of line (field_with_start this_kind (suc n)))

-- the first before the refused one; the last field isn't asked
abbrev pub field_with_sign : Kind → ℕ → List ℕ → Option ((f : ℕ × FieldLayout) × Sign)
field_with_sign this_kind refused line = first_sign this_kind line (min (length (layout this_kind) - 1) (refused - 1))

abbrev pub sign_said : Sign → List ℕ
sign_said GoesOn = codes "goes on over its end"
sign_said Gap = codes "has text again after blanks"

-- that of a field of that name, which ends with that byte
unfoldable pub sign_line : List ℕ → List ℕ → List ℕ → ℕ → List ℕ
sign_line of_kind name said last =
    concat
    (label_words (codes "note") ∷ of_kind ∷ codes " " ∷ name ∷ codes " " ∷ said ∷ codes " (byte " ∷ decimal last
    ∷ codes "), and the line is short: blanks or letters may have been lost before that\n" ∷ [])

abbrev pub sign_words : Kind → Option ((f : ℕ × FieldLayout) × Sign) → List ℕ
sign_words this_kind None = []
sign_words this_kind (Some found) =
    sign_line (letters this_kind) found.0.1.name (sign_said found.1) (end_of found.0.0 found.0.1.width)

-- ---- a line that is shorter than those around it

-- its last byte is a space
abbrev pub ends_blank : List ℕ → Bool
ends_blank line = bytes_eq (drop (length line - 1) line) (codes " ")

-- the line before has all bytes of one of its kind, and blanks at its end
abbrev pub is_filled_up : Option (List ℕ) → Bool
is_filled_up None = false
is_filled_up (Some line) = is_full (first_kind (without_cr line)) (without_cr line) && ends_blank (without_cr line)

-- A short line of the kind isn't just one without the blanks at its end: it stands in a transaction, as others are often written without
-- their last fields, and has such blanks, or lacks two bytes at most.
abbrev pub lacks_bytes : Kind → List ℕ → Bool
lacks_bytes this_kind line =
    not (is_outside (Some this_kind)) && (ends_blank line || nat_le (line_width this_kind - length line) 2)

-- and the line before is filled up
abbrev pub lost_bytes : Kind → Option (List ℕ) → List ℕ → Bool
lost_bytes this_kind before line = lacks_bytes this_kind line && is_filled_up before

unfoldable pub one_short_line : List ℕ
one_short_line =
    label_words (codes "note")
    ++ codes "this line is 1 byte shorter than one of its kind, and the line before it is filled up: a byte was lost in the first wrong cell or before it, and what stands behind it has moved to the left; put it back, and don't mend the cells behind one by one\n"

unfoldable pub some_short_line : ℕ → List ℕ
some_short_line count =
    concat
    (label_words (codes "note") ∷ codes "this line is " ∷ decimal count
    ∷ codes " bytes shorter than one of its kind, and the line before it is filled up: bytes were lost in the first wrong cell or before it, and what stands behind them has moved to the left; put them back, and don't mend the cells behind one by one\n" ∷ [])

-- that it has so many bytes less than one of its kind
abbrev pub short_line : ℕ → List ℕ
short_line count = if count == 1 then one_short_line else some_short_line count

abbrev pub short_line_if : Bool → ℕ → List ℕ
short_line_if filled_up count = if filled_up then short_line count else []

-- what a short line of the kind, which is refused at that field, shows: a field of it, or where that field stands whole in it, its length
-- beside the line before
abbrev pub lost_by : Kind → ℕ → Option ((f : ℕ × FieldLayout) × Sign) → Option (List ℕ) → List ℕ → List ℕ
lost_by this_kind refused None before line =
    short_line_if (not (is_cut (field_with_start this_kind refused) line) && lost_bytes this_kind before line)
    (line_width this_kind - length line)
lost_by this_kind refused (Some found) before line = sign_words this_kind (Some found)

-- the same where the line is short
abbrev pub lost_words : Kind → ℕ → Option (List ℕ) → List ℕ → List ℕ
lost_words this_kind refused before line =
    if nat_le (line_width this_kind) (length line) then []
    else lost_by this_kind refused (field_with_sign this_kind refused line) before line

-- ---- bytes that are no text

abbrev pub is_zero_byte : ℕ → Bool
is_zero_byte b = b == 0

abbrev pub is_tab : ℕ → Bool
is_tab b = b == 9

unfoldable pub zero_line : List ℕ
zero_line =
    label_words (codes "note")
    ++ codes "bytes of zeros (00) stand in the line: where they stand for blanks, put blanks there; else a block was lost on a disk or on the way: get the file again\n"

unfoldable pub tab_line : List ℕ
tab_line =
    label_words (codes "note")
    ++ codes "tabs (09) stand in the line, where blanks were: each cell has its place; take the file as it was before that\n"

-- why the cells of a line of the kind, which is refused at that field after that line, may stand elsewhere
abbrev pub moved_of : Kind → ℕ → Option (List ℕ) → List ℕ → List ℕ
moved_of this_kind refused before line =
    if bytes_beyond line == 0 then lost_words this_kind refused before line ++ long_line_words this_kind refused line
    else character_words this_kind line (bytes_beyond line)

abbrev pub shift_of : Kind → ℕ → Option (List ℕ) → List ℕ → List ℕ
shift_of this_kind refused before line =
    if list_any is_zero_byte line then zero_line
    else (if list_any is_tab line then tab_line else moved_of this_kind refused before line)

abbrev pub shift_words : Option Kind → ℕ → Option (List ℕ) → List ℕ → List ℕ
shift_words None refused before line = []
shift_words (Some this_kind) refused before line = shift_of this_kind refused before line

-- a line of the kind after that one is longer than such lines, but for blanks, or shorter than those around it
abbrev pub is_moved : Option Kind → Option (List ℕ) → List ℕ → Bool
is_moved None before line = false
is_moved (Some this_kind) before line =
    nat_lt (line_width this_kind) (length (trimmed line))
    || (nat_lt (length line) (line_width this_kind) && lost_bytes this_kind before line)
