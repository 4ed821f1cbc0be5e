-- A line that is too long by some bytes, behind which its cells stand further right.
use Rattle.std.specs.Prelude.{ℕ, zero, suc, ◌-◌, ◌==◌, ◌&&◌, ◌||◌, not, min, nat_le, nat_lt, unwrap_or, Bool, true, false, List, [], ◌∷◌, ◌++◌}
use Rattle.std.specs.Prelude.{codes, decimal, drop, length, take, Option, None, Some, if◌then◌else◌}
use Rattle.std.specs.List.{concat, list_all}
use Rattle.std.specs.Option.{option_or}
use Rattle.std.specs.Str.{bytes_eq}
use Rattle.cwr_fields.specs.declared.cell_types.CellType.{CellType}
use Rattle.cwr_fields.specs.declared.cell_types.CellType.TheVariants.{Text, Required, Number, OptNumber, Date, OptDate, Time}
use Rattle.cwr_fields.specs.declared.cell_types.CellType.TheVariants.{OptTime, OptDuration, Share, Flag, Code, OptCode, Constant}
use Rattle.cwr_fields.specs.declared.kinds.Kind.{Kind}
use Rattle.cwr_fields.specs.declared.kinds.Kind.TheVariants.{Hdr}
use Rattle.cwr_fields.specs.Format.Bytes.{are_digits, is_spaces}
use Rattle.cwr_fields.specs.Format.Codes.{word_text}
use Rattle.cwr_fields.specs.Format.Layouts.{FieldLayout, field_with_start, layout, line_width}
use Rattle.cwr_causes.specs.Format.Texts.{label_words}

-- ---- what a cell looks like

-- no byte of it is a space
abbrev pub has_no_space : List ℕ → Bool
has_no_space cell = list_all (λ b. not (b == 32)) cell

-- Y, N, U or a space
abbrev pub is_flag : ℕ → Bool
is_flag b = (b == 89) || ((b == 78) || ((b == 85) || (b == 32)))

-- digits, or spaces
abbrev pub digits_or_spaces : List ℕ → Bool
digits_or_spaces cell = are_digits cell || is_spaces cell

-- a cell of the type may look so, as far as spaces, digits and flags tell
abbrev pub looks_like : CellType → List ℕ → Bool
looks_like Text cell = true
looks_like Required cell = true
looks_like Number cell = are_digits cell
looks_like OptNumber cell = digits_or_spaces cell
looks_like Date cell = are_digits cell
looks_like OptDate cell = digits_or_spaces cell
looks_like Time cell = are_digits cell
looks_like OptTime cell = digits_or_spaces cell
looks_like OptDuration cell = digits_or_spaces cell
looks_like Share cell = digits_or_spaces cell
looks_like Flag cell = list_all is_flag cell
looks_like (Code table) cell = has_no_space cell
looks_like (OptCode table) cell = has_no_space cell || is_spaces cell
looks_like (Constant word) cell = bytes_eq cell (word_text word)

-- ---- cells that stand further right

-- so many bytes of a text from a place on, as far as it goes
abbrev pub part : List ℕ → ℕ → ℕ → List ℕ
part text start width =
    let rest = drop (min start (length text)) text in
    take (min width (length rest)) rest

-- the cell of a field in a text
abbrev pub cell_in : List ℕ → ℕ × FieldLayout → List ℕ
cell_in text f = part text f.0 f.1.width

-- it looks right; numbers of the file's own stand before all others, and aren't asked
abbrev pub looks_right : List ℕ → ℕ × FieldLayout → Bool
looks_right text f = not f.1.derived && looks_like f.1.ty (cell_in text f)

-- the field from which on all look right, with one field more
abbrev pub run_with : List ℕ → Option (ℕ × FieldLayout) → Option (ℕ × FieldLayout) → Option (ℕ × FieldLayout)
run_with text first None = first
run_with text first (Some f) = if looks_right text f then option_or first (Some f) else None

-- of a kind's first fields, so many, the one from which on all look right
unfoldable pub run_start : Kind → List ℕ → ℕ → Option (ℕ × FieldLayout)
run_start this_kind text zero = None
run_start this_kind text (suc n) = run_with text (run_start this_kind text n) (field_with_start this_kind (suc n))

-- the same of all its fields
abbrev pub right_from : Kind → List ℕ → Option (ℕ × FieldLayout)
right_from this_kind text = run_start this_kind text (length (layout this_kind))

-- cells of the type aren't any text
abbrev pub is_typed : CellType → Bool
is_typed Text = false
is_typed Required = false
is_typed ty = true

-- a field that starts there or behind isn't any text, and isn't blank
abbrev pub tells : List ℕ → ℕ → ℕ × FieldLayout → Bool
tells text start f = nat_le start f.0 && (is_typed f.1.ty && not (is_spaces (cell_in text f)))

abbrev pub told_with : List ℕ → ℕ → Bool → Option (ℕ × FieldLayout) → Bool
told_with text start told None = told
told_with text start told (Some f) = told || tells text start f

-- of a kind's first fields, so many, one is such
unfoldable pub told_in : Kind → List ℕ → ℕ → ℕ → Bool
told_in this_kind text start zero = false
told_in this_kind text start (suc n) = told_with text start (told_in this_kind text start n) (field_with_start this_kind (suc n))

-- of all its fields
abbrev pub is_told : Kind → List ℕ → ℕ → Bool
is_told this_kind text start = told_in this_kind text start (length (layout this_kind))

-- the refused field stands behind that one or is it, and cells of which blanks and text alone don't tell look right
abbrev pub shows_shift : Kind → List ℕ → ℕ × FieldLayout → Option (ℕ × FieldLayout) → Bool
shows_shift this_kind text first None = false
shows_shift this_kind text first (Some refused) = nat_le first.0 refused.0 && is_told this_kind text first.0

-- ---- the cell that is too long

-- a text begins with no blank, or it is all blank
abbrev pub begins_well : List ℕ → Bool
begins_well [] = true
begins_well (b ∷ rest) = not (b == 32) || is_spaces rest

-- a cell of the type may stand so
abbrev pub stands_well : CellType → List ℕ → Bool
stands_well Text cell = begins_well cell
stands_well Required cell = begins_well cell
stands_well ty cell = looks_like ty cell

-- the field is the one that starts there, or its cell in the line looks wrong; numbers of the file's own aren't asked
abbrev pub is_wrong : List ℕ → ℕ → ℕ × FieldLayout → Bool
is_wrong line refused f = not f.1.derived && ((f.0 == refused) || not (stands_well f.1.ty (cell_in line f)))

abbrev pub wrong_with : List ℕ → ℕ → Option (ℕ × FieldLayout) → Option (ℕ × FieldLayout) → Option (ℕ × FieldLayout)
wrong_with line refused first None = first
wrong_with line refused first (Some f) = if is_wrong line refused f then option_or first (Some f) else first

-- of a kind's first fields, so many, the first such
unfoldable pub wrong_in : Kind → List ℕ → ℕ → ℕ → Option (ℕ × FieldLayout)
wrong_in this_kind line refused zero = None
wrong_in this_kind line refused (suc n) =
    wrong_with line refused (wrong_in this_kind line refused n) (field_with_start this_kind (suc n))

-- of all its fields
abbrev pub first_wrong : Kind → List ℕ → ℕ → Option (ℕ × FieldLayout)
first_wrong this_kind line refused = wrong_in this_kind line refused (length (layout this_kind))

-- a cell before that place that isn't blank
abbrev pub is_filled : List ℕ → ℕ → ℕ × FieldLayout → Bool
is_filled line end f =
    not f.1.derived && (nat_lt f.0 end && not (is_spaces (cell_in line f)))

abbrev pub filled_with : List ℕ → ℕ → Option (ℕ × FieldLayout) → Option (ℕ × FieldLayout) → Option (ℕ × FieldLayout)
filled_with line end last None = last
filled_with line end last (Some f) = if is_filled line end f then Some f else last

-- of a kind's first fields, so many, the last such
unfoldable pub filled_in : Kind → List ℕ → ℕ → ℕ → Option (ℕ × FieldLayout)
filled_in this_kind line end zero = None
filled_in this_kind line end (suc n) = filled_with line end (filled_in this_kind line end n) (field_with_start this_kind (suc n))

-- of all its fields
abbrev pub last_filled : Kind → List ℕ → ℕ → Option (ℕ × FieldLayout)
last_filled this_kind line end = filled_in this_kind line end (length (layout this_kind))

-- The cell that is too long, where those from the first field on look right further right: the last one that isn't blank before the first
-- that looks wrong in its place, or that one itself where it doesn't look right further right either.
abbrev pub too_long_of : Kind → List ℕ → ℕ × FieldLayout → Option (ℕ × FieldLayout) → ℕ × FieldLayout
too_long_of this_kind line first None = first
too_long_of this_kind line first (Some wrong) =
    if nat_le first.0 wrong.0 then unwrap_or (last_filled this_kind line wrong.0) wrong else wrong

abbrev pub too_long_in : Kind → List ℕ → ℕ × FieldLayout → Option (ℕ × FieldLayout) → ℕ × FieldLayout
too_long_in this_kind line first None = first
too_long_in this_kind line first (Some refused) = too_long_of this_kind line first (first_wrong this_kind line refused.0)

-- ---- what is said of it

-- that the line is too long by one byte, from the field of that name on
unfoldable pub one_too_many : List ℕ → List ℕ
one_too_many name =
    concat
    (label_words (codes "note") ∷ codes "this line is 1 byte too long: from " ∷ name
    ∷ codes " on, everything stands 1 byte further right\n" ∷ [])

-- by several
unfoldable pub some_too_many : ℕ → List ℕ → List ℕ
some_too_many shift name =
    concat
    (label_words (codes "note") ∷ codes "this line is " ∷ decimal shift ∷ codes " bytes too long: from " ∷ name
    ∷ codes " on, everything stands " ∷ decimal shift ∷ codes " bytes further right\n" ∷ [])

abbrev pub long_line : ℕ → List ℕ → List ℕ
long_line shift name = if shift == 1 then one_too_many name else some_too_many shift name

-- the same where the cells of the line without so many bytes at its begin show it
abbrev pub long_line_if : Kind → List ℕ → List ℕ → ℕ → Option (ℕ × FieldLayout) → Option (ℕ × FieldLayout) → List ℕ
long_line_if this_kind line text shift None refused = []
long_line_if this_kind line text shift (Some first) refused =
    if shows_shift this_kind text first refused then long_line shift (too_long_in this_kind line first refused).1.name else []

abbrev pub long_by : Kind → ℕ → List ℕ → List ℕ → ℕ → List ℕ
long_by this_kind refused line text shift =
    long_line_if this_kind line text shift (right_from this_kind text) (field_with_start this_kind refused)

-- the same of a line of the kind that is refused at that field, where it has more bytes than its fields
abbrev pub long_line_words : Kind → ℕ → List ℕ → List ℕ
long_line_words this_kind refused line =
    if nat_le (length line) (line_width this_kind) then []
    else long_by this_kind refused line (drop (length line - line_width this_kind) line) (length line - line_width this_kind)

-- ---- a sender id of eleven digits

-- in HDR eleven digits stand where a sender id of nine bytes begins, and the version stands two bytes further right
abbrev pub has_long_id : List ℕ → Bool
has_long_id line = bytes_eq (part line 61 5) (codes "01.10") && are_digits (part line 5 11)

unfoldable pub long_id_line : List ℕ
long_id_line =
    label_words (codes "note")
    ++ codes "the sender id has eleven digits: of an IPI name number of eleven digits the first two stand in the sender type, bytes 4 and 5 of the line\n"

abbrev pub long_id_of : Kind → List ℕ → List ℕ
long_id_of Hdr line = if has_long_id line then long_id_line else []
long_id_of this_kind line = []

abbrev pub long_id_words : Option Kind → List ℕ → List ℕ
long_id_words None line = []
long_id_words (Some this_kind) line = long_id_of this_kind line
