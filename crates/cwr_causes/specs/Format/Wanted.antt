-- What may stand in the place of what was found, in words, and what a misplaced line points to.
use Rattle.std.specs.Prelude.{ℕ, ◌+◌, ◌-◌, ◌^◌, ◌==◌, ◌&&◌, ◌||◌, nat_eq, nat_le, not, Bool, true, false, List, [], ◌∷◌, ◌++◌, codes, decimal, position}
use Rattle.std.specs.Prelude.{drop, length, slice_index, Option, None, Some, if◌then◌else◌}
use Rattle.std.specs.Char.{is_ascii_alphabetic}
use Rattle.std.specs.List.{concat, list_all, list_any, starts_with}
use Rattle.std.specs.Str.{bytes_eq}
use Rattle.std.specs.Fmt.{format_spec, styled_decimal}
use Rattle.cwr_fields.specs.declared.cell_types.CellFault.{CellFault}
use Rattle.cwr_fields.specs.declared.cell_types.CellFault.TheVariants as cell_faults
use Rattle.cwr_fields.specs.declared.codes.TransactionType.{TransactionType}
use Rattle.cwr_fields.specs.declared.codes.TransactionType.TheVariants.{Acknowledgement}
use Rattle.cwr_fields.specs.declared.kinds.Kind.{Kind}
use Rattle.cwr_fields.specs.Format.Bytes.{is_control, is_digit}
use Rattle.cwr_fields.specs.Format.Kinds.{letters}
use Rattle.cwr_fields.specs.Format.Layouts.{FieldLayout, line_width}
use Rattle.cwr_shape.specs.declared.limits.LimitKind.{LimitKind}
use Rattle.cwr_shape.specs.declared.limits.LimitKind.TheVariants as limit_kinds
use Rattle.cwr_shape.specs.declared.limits.Limits.{Limits}
use Rattle.cwr_shape.specs.declared.stages.Stage.{Stage}
use Rattle.cwr_shape.specs.declared.stages.Stage.TheVariants.{Within}
use Rattle.cwr_shape.specs.declared.stages.TransactionStep.{TransactionStep}
use Rattle.cwr_shape.specs.declared.stages.TransactionStep.TheVariants.{InGroup}
use Rattle.cwr_shape.specs.declared.symbols.Symbol.TheVariants.{Plain}
use Rattle.cwr_shape.specs.Format.NextSymbols.{header_kind, is_header_of}
use Rattle.cwr_shape.specs.Format.ReasonTexts.{limit_text}
use Rattle.cwr_causes.specs.Format.Texts.{hex_words, label_words}
use Rattle.cwr_causes.specs.Format.Expected.{counted_words, type_words}
use Rattle.cwr_causes.specs.Format.Refusals.{RefusedLine, refused_field}
use Rattle.cwr_causes.specs.Format.WrongNumbers.{is_header}

-- ---- what may stand in a cell

-- which byte of a cell is a control byte, from 1
unfoldable pub control_place : ℕ → List ℕ
control_place number = concat (codes "; byte " ∷ decimal number ∷ codes " of the cell is the control byte " ∷ [])

-- the same, and that byte
unfoldable pub control_line : ℕ → ℕ → List ℕ
control_line number byte = (control_place number ++ hex_words byte) ++ codes " (hex)"

abbrev pub control_at : List ℕ → Option ℕ → List ℕ
control_at cell None = []
control_at cell (Some at) = control_line (at + 1) (slice_index cell at)

-- the first control byte of a cell
abbrev pub control_words : Option (List ℕ) → List ℕ
control_words None = []
control_words (Some cell) = control_at cell (position is_control cell)

-- the letter O
abbrev pub is_letter_o : ℕ → Bool
is_letter_o b = (b == 79) || (b == 111)

-- a digit or a space
abbrev pub is_digit_or_space : ℕ → Bool
is_digit_or_space b = (b == 32) || (nat_le 48 b && nat_le b 57)

-- its last byte is a letter
abbrev pub ends_letter : List ℕ → Bool
ends_letter cell = list_any is_ascii_alphabetic (drop (length cell - 1) cell)

-- it begins with a digit that is no zero, or with a zero, and ends with a letter, as where what stands behind it has moved in
abbrev pub begins_early : List ℕ → Bool
begins_early [] = false
begins_early (b ∷ rest) = (nat_le 49 b && nat_le b 57) || ((b == 48) && ends_letter (b ∷ rest))

-- a digit, or the letter O
abbrev pub is_digit_or_o : ℕ → Bool
is_digit_or_o b = is_letter_o b || (nat_le 48 b && nat_le b 57)

-- digits alone, but for letters O
abbrev pub has_letters_o : List ℕ → Bool
has_letters_o cell = list_any is_letter_o cell && list_all is_digit_or_o cell

-- a small l or a capital I
abbrev pub is_letter_l : ℕ → Bool
is_letter_l b = (b == 108) || (b == 73)

-- a digit, or one of these
abbrev pub is_digit_or_l : ℕ → Bool
is_digit_or_l b = is_letter_l b || (nat_le 48 b && nat_le b 57)

-- digits alone, but for these
abbrev pub has_letters_l : List ℕ → Bool
has_letters_l cell = list_any is_letter_l cell && list_all is_digit_or_l cell

-- letters in a number that look like digits
abbrev pub letter_said : List ℕ → List ℕ
letter_said cell =
    if has_letters_o cell then codes "; the letter O isn't the digit 0"
    else (if has_letters_l cell then codes "; the letters l and I aren't the digit 1" else [])

-- a point or a comma
abbrev pub is_point : ℕ → Bool
is_point b = (b == 46) || (b == 44)

-- a digit, a space, a point or a comma
abbrev pub is_digit_or_point : ℕ → Bool
is_digit_or_point b = is_point b || is_digit_or_space b

-- a number with a point or a comma
abbrev pub has_points : List ℕ → Bool
has_points cell = list_any is_point cell && list_all is_digit_or_point cell

-- its last byte is a digit
abbrev pub ends_digit : List ℕ → Bool
ends_digit cell = list_any is_digit (drop (length cell - 1) cell)

-- it begins with a zero, and ends with a digit, as where bytes were put in between
abbrev pub is_parted : List ℕ → Bool
is_parted [] = false
is_parted (b ∷ rest) = (b == 48) && ends_digit (b ∷ rest)

-- what else than letters stands in the place of digits: in a number of the file's own spaces do for zeros, a point or a comma, or zeros may
-- have been lost in front, or bytes put in
abbrev pub other_said : Bool → List ℕ → List ℕ
other_said derived cell =
    if derived && list_all is_digit_or_space cell then codes "; cwr renumber --new FILE OUT writes such numbers in full"
    else (if has_points cell then codes "; no point and no comma stands in such a number"
    else (if begins_early cell
    then codes "; such a number has zeros in front: where some were lost, or a field before it was left out, what stands behind has moved to the left"
    else (if is_parted cell then codes "; where bytes were put in, what stands behind has moved to the right" else [])))

-- it has letters that look like digits
abbrev pub has_letters : List ℕ → Bool
has_letters cell = has_letters_o cell || has_letters_l cell

-- why a cell isn't all digits, as far as it shows
abbrev pub digit_said : Bool → List ℕ → List ℕ
digit_said derived cell = if has_letters cell then letter_said cell else other_said derived cell

-- a mark between the parts of a date: a full stop, a hyphen or a slash
abbrev pub is_date_mark : ℕ → Bool
is_date_mark b = (b == 46) || ((b == 45) || (b == 47))

-- a digit, or such a mark
abbrev pub is_digit_or_mark : ℕ → Bool
is_digit_or_mark b = is_date_mark b || (nat_le 48 b && nat_le b 57)

-- digits with marks between them
abbrev pub has_marks : List ℕ → Bool
has_marks cell = list_any is_date_mark cell && list_all is_digit_or_mark cell

-- why a cell isn't a time, as far as it shows: letters stand for digits
abbrev pub time_words : Option (List ℕ) → List ℕ
time_words None = []
time_words (Some cell) = letter_said cell

-- its last byte is a space
abbrev pub ends_space : List ℕ → Bool
ends_space cell = list_any (λ b. b == 32) (drop (length cell - 1) cell)

-- digits, and spaces after them
abbrev pub ends_early : List ℕ → Bool
ends_early cell = ends_space cell && (list_any is_digit cell && list_all is_digit_or_space cell)

-- why a cell isn't a day: it is written with marks, or too short, or letters stand for digits
abbrev pub date_said : List ℕ → List ℕ
date_said cell =
    if has_marks cell
    then codes "; a date has no marks: where it was written in ten bytes, what stands behind it has moved to the right"
    else (if ends_early cell then codes "; where digits were lost or blanks put in, here or before, what stands behind has moved"
    else letter_said cell)

abbrev pub date_words : Option (List ℕ) → List ℕ
date_words None = []
date_words (Some cell) = date_said cell

-- why a cell isn't the version that belongs there: its last digit may be lost, or where it is none, bytes before it
abbrev pub version_said : List ℕ → List ℕ
version_said cell =
    if starts_with nat_eq cell (codes "01.1") || starts_with nat_eq cell (codes "02.1")
    then codes "; where its last 0 was lost, what stands behind it has moved to the left"
    else (if starts_with nat_eq (drop 2 cell) (codes ".") then []
    else codes "; where bytes were lost or put in before it, what stands behind has moved with it")

abbrev pub constant_words : Option (List ℕ) → List ℕ
constant_words None = []
constant_words (Some cell) = version_said cell

abbrev pub digit_words : Bool → Option (List ℕ) → List ℕ
digit_words derived None = []
digit_words derived (Some cell) = digit_said derived cell

-- what shows of a cell's fault: its control byte, or what stands in the place of digits
abbrev pub fault_words : Bool → CellFault → Option (List ℕ) → List ℕ
fault_words derived cell_faults.Control cell = control_words cell
fault_words derived cell_faults.NotDigits cell = digit_words derived cell
fault_words derived cell_faults.NotADate cell = date_words cell
fault_words derived cell_faults.NotATime cell = time_words cell
fault_words derived cell_faults.NotConstant cell = constant_words cell
fault_words derived fault cell = []

-- what a number counts, where it is one of the file's own
abbrev pub rule_words : Bool → Option Kind → ℕ → List ℕ
rule_words true (Some this_kind) j = codes ": " ++ counted_words this_kind j
rule_words derived this_kind j = []

-- what may stand in the cell of the field
unfoldable pub cell_expected_words : RefusedLine → FieldLayout → CellFault → Option (List ℕ) → List ℕ
cell_expected_words r f fault cell =
    concat
    (label_words (codes "expected") ∷ type_words f.width f.ty ∷ rule_words f.derived r.kind r.refusal.field
    ∷ fault_words f.derived fault cell ∷ codes "\n" ∷ [])

-- ---- the number that belongs there

-- a number in the width of its field
abbrev pub number_in_width : ℕ → ℕ → List ℕ
number_in_width width n =
    if width == 5 then styled_decimal (format_spec 32 0 4 5 (2 ^ 64 - 1)) n
    else (if width == 8 then styled_decimal (format_spec 32 0 4 8 (2 ^ 64 - 1)) n else decimal n)

-- a number that belongs in the field, and what it counts
unfoldable pub counted_number : Kind → ℕ → ℕ → ℕ → List ℕ
counted_number this_kind j width n =
    concat
    (number_in_width width n ∷ codes ": " ∷ counted_words this_kind j ∷ codes "; write it only if no record is missing or stands twice" ∷ [])

abbrev pub number_of_field : Option Kind → Option (ℕ × FieldLayout) → ℕ → ℕ → List ℕ
number_of_field (Some this_kind) (Some f) j n = counted_number this_kind j f.1.width n
number_of_field this_kind f j n = []

-- the number that belongs there
unfoldable pub number_expected_words : RefusedLine → ℕ → List ℕ
number_expected_words r n =
    concat
    (label_words (codes "expected") ∷ number_of_field r.kind (refused_field r) r.refusal.field n ∷ codes "\n" ∷ [])

-- ---- a limit

-- what a limit is
abbrev pub most_words : Limits → LimitKind → List ℕ
most_words limits limit_kinds.Records = concat (codes "at most " ∷ decimal limits.records ∷ codes " records in the file" ∷ [])
most_words limits limit_kinds.Groups = concat (codes "at most " ∷ decimal limits.groups ∷ codes " groups in the file" ∷ [])
most_words limits limit_kinds.Transaction =
    concat (codes "at most " ∷ decimal limits.transaction ∷ codes " records in a transaction" ∷ [])

-- how it is raised
unfoldable pub raised_words : List ℕ → List ℕ
raised_words word =
    concat
    (codes "; no file can be finished within that from here. The option --" ∷ word ∷ codes " raises it\n" ∷ [])

unfoldable pub limit_words : Limits → LimitKind → List ℕ
limit_words limits limit = concat (label_words (codes "expected") ∷ most_words limits limit ∷ raised_words (limit_text limit) ∷ [])

-- ---- the end of a line

-- where its last field ends
unfoldable pub last_byte_words : ℕ → List ℕ
last_byte_words last =
    concat (codes "nothing but spaces after byte " ∷ decimal last ∷ codes " of the line, where its last field ends\n" ∷ [])

abbrev pub end_of_line_words : Bool → Option Kind → List ℕ
end_of_line_words true this_kind = codes "a line of at most 1024 bytes before its line end\n"
end_of_line_words false (Some this_kind) = last_byte_words (line_width this_kind)
end_of_line_words false None = codes "\n"

-- where it may end
unfoldable pub end_expected_words : RefusedLine → List ℕ
end_expected_words r = label_words (codes "expected") ++ end_of_line_words r.is_too_long r.kind

-- ---- what a misplaced line points to

-- the same line stands right before it
abbrev pub stands_twice : Option (List ℕ) → List ℕ → Bool
stands_twice None line = false
stands_twice (Some before) line = bytes_eq before line

unfoldable pub twice_words : List ℕ
twice_words = label_words (codes "points to") ++ codes "the line before it is the same: it stands twice\n"

-- the record may begin the copy in an acknowledgement
abbrev pub may_be_copy : TransactionType → TransactionStep → Bool
may_be_copy Acknowledgement InGroup = false
may_be_copy Acknowledgement step = true
may_be_copy ty step = false

-- it is the header of another type's transaction than those of the open group
abbrev pub is_of_another_type : TransactionType → TransactionStep → Kind → Bool
is_of_another_type ty step this_kind =
    is_header this_kind && (not (is_header_of ty (Plain this_kind)) && not (may_be_copy ty step))

-- what that points to, by the letters of the kind and of the header that is wanted
unfoldable pub another_type_line : List ℕ → List ℕ → List ℕ
another_type_line found wanted =
    concat
    (label_words (codes "points to") ∷ codes "the group's GRH says " ∷ wanted
    ∷ codes " in bytes 4 to 6, and this is the header of a transaction of type " ∷ found
    ∷ codes ": the type in GRH is wrong, or a GRT and a GRH are missing before this line, or a transaction of another group was put in, or its kind is mistyped\n" ∷ [])

-- the same of one whose sequences are those that belong there
unfoldable pub mistyped_type_line : List ℕ → List ℕ → List ℕ
mistyped_type_line found wanted =
    concat
    (label_words (codes "points to") ∷ codes "the group's GRH says " ∷ wanted
    ∷ codes " in bytes 4 to 6, and this is the header of a transaction of type " ∷ found
    ∷ codes ", with the sequences that belong here: its kind is mistyped, or it needs a group of its own (a GRT, and a GRH of its type, before this line); if all of the group are such, the type in GRH is wrong\n" ∷ [])

abbrev pub type_line : Bool → List ℕ → List ℕ → List ℕ
type_line belongs found wanted = if belongs then mistyped_type_line found wanted else another_type_line found wanted

abbrev pub another_type_words : Option Stage → Bool → Kind → List ℕ
another_type_words (Some (Within ty step)) belongs this_kind =
    if is_of_another_type ty step this_kind then type_line belongs (letters this_kind) (letters (header_kind ty)) else []
another_type_words stage belongs this_kind = []

-- where the records before have come to that stage, if it is known
abbrev pub is_other_header : Option Stage → Kind → Bool
is_other_header (Some (Within ty step)) this_kind = is_of_another_type ty step this_kind
is_other_header stage this_kind = false
