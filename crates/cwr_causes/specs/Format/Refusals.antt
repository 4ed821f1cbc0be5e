-- What is said of a refused line: where it stands, which field, what stands there, what that points to, and what may stand there.
use Rattle.std.specs.Prelude.{ℕ, ◌+◌, ◌-◌, ◌^◌, ◌==◌, ◌||◌, ◌&&◌, nat_le, nat_lt, min, Bool, not, List, [], ◌∷◌, ◌++◌, codes}
use Rattle.std.specs.Prelude.{decimal, length, drop, Option, None, Some, position, if◌then◌else◌}
use Rattle.std.specs.List.{concat}
use Rattle.std.specs.Option.{option_and_then, unwrap_or}
use Rattle.cwr_fields.specs.declared.kinds.Kind.{Kind}
use Rattle.cwr_fields.specs.Format.Kinds.{kind_of, letters}
use Rattle.cwr_fields.specs.Format.Layouts.{FieldLayout, field_with_start, line_width}
use Rattle.cwr_lines.specs.Format.Lines.{longest_line, without_cr}
use Rattle.cwr_shape.specs.declared.reasons.Reason.{Reason}
use Rattle.cwr_shape.specs.declared.reasons.Reason.TheVariants as reasons
use Rattle.cwr_judge.specs.declared.refusals.Refusal.{Refusal}
use Rattle.cwr_notes.specs.Format.FindingNotes.{level_words}
use Rattle.cwr_causes.specs.declared.ahead.Ahead.{Ahead}
use Rattle.cwr_causes.specs.Format.Texts.{beginning_words, cell_words, label_words}
use Rattle.cwr_causes.specs.Format.Sequences.{capped_number}
use Rattle.cwr_causes.specs.Format.WrongNumbers.{points_words}

-- A refused line: the name of its input, where and why it is refused, its bytes before its line feed, whether that was read, how many
-- bytes were read before it, the line before where all of that is held, its kind, whether it is longer than a line may be, how the
-- numbers after it go on where they were looked at, whether the fault is the first that is explained of it, whether there are faults in
-- the lines before it, and the line on its work.
pub record RefusedLine : Type 0 where
  pub name : List ℕ
  pub refusal : Refusal
  pub bytes : List ℕ
  pub ended : Bool
  pub offset : ℕ
  pub before : Option (List ℕ)
  pub kind : Option Kind
  pub is_too_long : Bool
  pub ahead : Option Ahead
  pub is_first : Bool
  pub is_later : Bool
  pub work : List ℕ

-- the kind that a line's first three bytes name
abbrev pub first_kind : List ℕ → Option Kind
first_kind (a ∷ b ∷ c ∷ rest) = kind_of (a ∷ b ∷ c ∷ [])
first_kind line = None

-- ---- where

-- the field at which it is refused, with the place where it starts, where its kind has that
abbrev pub refused_field : RefusedLine → Option (ℕ × FieldLayout)
refused_field r = option_and_then (λ this_kind. field_with_start this_kind r.refusal.field) r.kind

-- where the last field ends, or the line where that is shorter
abbrev pub end_of_fields : Option Kind → List ℕ → ℕ
end_of_fields None line = 0
end_of_fields (Some this_kind) line = min (line_width this_kind) (length line)

-- the first byte of what stands after the last field and isn't a space, from 0
abbrev pub excess_at : RefusedLine → ℕ
excess_at r =
    let end = end_of_fields r.kind r.bytes in
    if r.is_too_long then longest_line else end + unwrap_or (position (λ b. not (b == 32)) (drop end r.bytes)) 0

-- the first byte that is shown, from 0, and how many are
abbrev pub shown_without_field : Reason → ℕ → ℕ × ℕ
shown_without_field reasons.Excess excess = (excess, 1)
shown_without_field reason excess = (0, 3)

abbrev pub shown_of : Option (ℕ × FieldLayout) → Reason → ℕ → ℕ × ℕ
shown_of (Some f) reason excess = (f.0, f.1.width)
shown_of None reason excess = shown_without_field reason excess

abbrev pub shown : RefusedLine → ℕ × ℕ
shown r = shown_of (refused_field r) r.refusal.reason (excess_at r)

-- the line without the carriage return of its end
abbrev pub without_return : RefusedLine → List ℕ
without_return r = if r.is_too_long then r.bytes else without_cr r.bytes

-- a number that is shown: at most the largest one of 64 bits
abbrev pub up_to_largest : ℕ → ℕ
up_to_largest n = min n (2 ^ 64 - 1)

-- which bytes of the line: so many, after so many others
unfoldable pub range_words : ℕ → ℕ → List ℕ
range_words start width =
    if width == 1 then concat (codes "byte " ∷ decimal (up_to_largest (start + 1)) ∷ codes " of the line" ∷ [])
    else concat
    (codes "bytes " ∷ decimal (up_to_largest (start + 1)) ∷ codes " to " ∷ decimal (up_to_largest (start + width))
    ∷ codes " of the line" ∷ [])

-- which byte of the file that is, from 1
unfoldable pub byte_of_file_words : ℕ → List ℕ
byte_of_file_words at = concat (codes ", byte " ∷ decimal at ∷ codes " of the file\n" ∷ [])

-- which bytes of the line, and which byte of the file the first of them is, where so many bytes come before the line
unfoldable pub range_of_file_words : ℕ → ℕ → ℕ → List ℕ
range_of_file_words start width offset =
    range_words start width ++ byte_of_file_words (up_to_largest (offset + up_to_largest (start + 1)))

-- after which byte of it the line ends, from 1
unfoldable pub end_byte_words : ℕ → List ℕ
end_byte_words count = codes ", which ends after byte " ++ decimal count

-- which bytes of the line, where that ends before them, and which byte of the file its last one is: so many bytes has the line, after
-- so many of the file
unfoldable pub range_beyond_words : ℕ → ℕ → ℕ → ℕ → List ℕ
range_beyond_words start width count offset =
    (range_words start width ++ end_byte_words count) ++ byte_of_file_words (up_to_largest (offset + count))

-- the first byte that is shown stands in the line, or the line is empty
abbrev pub is_in_line : RefusedLine → Bool
is_in_line r = r.is_too_long || ((shown r).0 == 0 || nat_lt (shown r).0 (length (without_return r)))

-- which bytes are shown
abbrev pub place_words : RefusedLine → List ℕ
place_words r =
    if is_in_line r then range_of_file_words (shown r).0 (shown r).1 r.offset
    else range_beyond_words (shown r).0 (shown r).1 (length (without_return r)) r.offset

-- the line that says where
unfoldable pub where_words : RefusedLine → List ℕ
where_words r =
    concat
    (label_words (codes "where") ∷ r.name ∷ codes ", line " ∷ decimal r.refusal.rec ∷ codes ", " ∷ [])
    ++ place_words r

-- ---- the field, and what stands there

-- the name of a field of the kind
abbrev pub named_field : Kind → Option (ℕ × FieldLayout) → List ℕ
named_field this_kind (Some f) = concat (letters this_kind ∷ codes " " ∷ f.1.name ∷ codes "\n" ∷ [])
named_field this_kind None = concat (letters this_kind ∷ codes ", after its last field\n" ∷ [])

-- the same where the kind is known
abbrev pub field_name : Option Kind → Option (ℕ × FieldLayout) → List ℕ
field_name (Some this_kind) f = named_field this_kind f
field_name None f = codes "record type\n"

-- the line that names the field
unfoldable pub field_words : RefusedLine → List ℕ
field_words r = label_words (codes "field") ++ field_name r.kind (refused_field r)

-- what is shown isn't held, as the line is too long
abbrev pub is_beyond : RefusedLine → Bool
is_beyond r = r.is_too_long && nat_le (length (without_return r)) (shown r).0

-- what stands in the place of a cell
abbrev pub rest_words : RefusedLine → List ℕ
rest_words r =
    if is_beyond r then codes "more than 1024 bytes before a line end"
    else beginning_words (drop (min (shown r).0 (length (without_return r))) (without_return r))

-- what stands in the cell of the field, or in its place
abbrev pub content_words : RefusedLine → Option (List ℕ) → List ℕ
content_words r (Some cell) = cell_words cell
content_words r None = rest_words r

-- the line that says what stands there
unfoldable pub found_words : RefusedLine → Option (List ℕ) → List ℕ
found_words r cell = concat (label_words (codes "found") ∷ content_words r cell ∷ codes "\n" ∷ [])

-- ---- what it points to

-- the cell of the refused field holds a number other than the one that belongs there
abbrev pub wrong_number : RefusedLine → Option Kind → Option (List ℕ) → ℕ → List ℕ
wrong_number r (Some this_kind) (Some cell) expected =
    points_words
    (record {
      kind = this_kind;
      field = r.refusal.field;
      found = capped_number cell;
      expected = expected;
      number = r.refusal.rec;
      line = r.bytes;
      before = r.before;
      ahead = r.ahead;
      is_later = r.is_later;
    })
wrong_number r this_kind cell expected = []

abbrev pub points_at : RefusedLine → Option (List ℕ) → Reason → List ℕ
points_at r cell (reasons.Number expected) = wrong_number r r.kind cell expected
points_at r cell reason = []

-- what a wrong number in that cell points to
unfoldable pub number_points_words : RefusedLine → Option (List ℕ) → List ℕ
number_points_words r cell = points_at r cell r.refusal.reason

-- ---- its level

unfoldable pub refused_level_words : RefusedLine → List ℕ
refused_level_words r = concat (label_words (codes "level") ∷ level_words r.refusal.level ∷ codes "\n" ∷ [])
