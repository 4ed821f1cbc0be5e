-- Lines of which the end between them was lost.
use Rattle.std.specs.Prelude.{ℕ, ◌+◌, ◌-◌, ◌==◌, ◌&&◌, ◌||◌, nat_eq, Bool, List, [], ◌∷◌, codes, decimal, drop, length, position, take, Option, None, Some, if◌then◌else◌}
use Rattle.std.specs.List.{concat, starts_with}
use Rattle.std.specs.Option.{is_some, option_or}
use Rattle.cwr_fields.specs.declared.kinds.Kind.{Kind}
use Rattle.cwr_fields.specs.declared.kinds.Kind.TheVariants.{Hdr}
use Rattle.cwr_fields.specs.Format.Bytes.{are_digits}
use Rattle.cwr_fields.specs.Format.Kinds.{letters}
use Rattle.cwr_causes.specs.Format.LongLines.{part}
use Rattle.cwr_causes.specs.Format.Openings.{is_other, opening_of}
use Rattle.cwr_causes.specs.Format.Refusals.{RefusedLine, excess_at, first_kind, up_to_largest}
use Rattle.cwr_causes.specs.Format.Texts.{label_words}

-- ---- where another line begins

-- from that place on the text has so many digits
abbrev pub has_digits : List ℕ → ℕ → ℕ → Bool
has_digits text from count = (length (part text from count) == count) && are_digits (part text from count)

-- A text begins as a record does: with the letters of a kind and sixteen digits, which are sequences or counts, as GRH does with its type
-- and its ID, or as HDR does with the sender's type and ID.
abbrev pub begins_record : List ℕ → Bool
begins_record text =
    (is_some (first_kind text) && has_digits text 3 16)
    || ((starts_with nat_eq text (codes "GRH") && has_digits text 6 5)
    || (starts_with nat_eq text (codes "HDR") && has_digits text 5 9))

-- what a text has from the first place on at which such a line begins
abbrev pub first_record : List ℕ → Option (List ℕ)
first_record [] = None
first_record (b ∷ rest) = if begins_record (b ∷ rest) then Some (b ∷ rest) else first_record rest

-- a text that begins as a file or a group does
abbrev pub head_in : List ℕ → Option (List ℕ)
head_in text =
    if starts_with nat_eq text (codes "HDR") || starts_with nat_eq text (codes "GRH") then Some text else None

-- some byte but the last one is a carriage return
abbrev pub has_return : List ℕ → Bool
has_return line = is_some (position (λ b. b == 13) (take (length line - 1) line))

-- what a line that names no record, and looks like nothing else, has from there on where a record begins in it
abbrev pub hidden_text : List ℕ → Option (List ℕ)
hidden_text line = if is_other (opening_of line) then first_record (drop 1 line) else None

-- What a line of known kind has from there on, where another one begins in it: one with its numbers anywhere, and HDR or GRH after its last
-- field. Where a carriage return stands within it, that is what ends its lines.
abbrev pub glued_of : Option Kind → RefusedLine → Option (List ℕ)
glued_of None r = hidden_text r.bytes
glued_of (Some this_kind) r =
    if has_return r.bytes then None else option_or (first_record (drop 3 r.bytes)) (head_in (drop (excess_at r) r.bytes))

abbrev pub glued_text : RefusedLine → Option (List ℕ)
glued_text r = glued_of r.kind r

-- ---- what is said of it

-- that a line with those letters begins at that byte of the line, and of the file, from 1
unfoldable pub glued_line : List ℕ → ℕ → ℕ → List ℕ
glued_line of_kind first of_file =
    concat
    (label_words (codes "note") ∷ codes "another line, " ∷ of_kind ∷ codes ", begins at byte " ∷ decimal first
    ∷ codes " of this one, byte " ∷ decimal of_file ∷ codes " of the file: the line end between them is missing\n" ∷ [])

-- that a file does
unfoldable pub glued_file : ℕ → ℕ → List ℕ
glued_file first of_file =
    concat
    (label_words (codes "note") ∷ codes "another file begins at byte " ∷ decimal first ∷ codes " of this line, byte " ∷ decimal of_file
    ∷ codes " of the file: cut them apart before it, and put them together by cwr join -o OUT --new A B\n" ∷ [])

abbrev pub glued_by : Option Kind → ℕ → ℕ → List ℕ
glued_by None first of_file = []
glued_by (Some Hdr) first of_file = glued_file first of_file
glued_by (Some this_kind) first of_file = glued_line (letters this_kind) first of_file

-- the same after so many bytes of the line, before which so many stand in the file
abbrev pub glued_after : Option Kind → ℕ → ℕ → List ℕ
glued_after this_kind at offset = glued_by this_kind (up_to_largest (at + 1)) (up_to_largest (offset + up_to_largest (at + 1)))

-- that a line with those letters begins at that byte of one that names no record, from 1
unfoldable pub hidden_line : List ℕ → ℕ → List ℕ
hidden_line of_kind first =
    concat
    (label_words (codes "note") ∷ of_kind ∷ codes " begins at byte " ∷ decimal first
    ∷ codes " of this line: what stands before that is no part of it; remove just that\n" ∷ [])

abbrev pub hidden_by : Option Kind → ℕ → List ℕ
hidden_by None first = []
hidden_by (Some this_kind) first = hidden_line (letters this_kind) first

-- the same after so many bytes
abbrev pub hidden_after : Option Kind → ℕ → List ℕ
hidden_after this_kind at = hidden_by this_kind (up_to_largest (at + 1))

-- what is said of a line of the kind, which has that text from there on
abbrev pub begun_words : Option Kind → RefusedLine → List ℕ → List ℕ
begun_words None r text = hidden_after (first_kind text) (length r.bytes - length text)
begun_words (Some this_kind) r text = glued_after (first_kind text) (length r.bytes - length text) r.offset

abbrev pub glued_words : RefusedLine → List ℕ → List ℕ
glued_words r text = begun_words r.kind r text
