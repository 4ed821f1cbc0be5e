-- What spreadsheets, word processors and web pages leave of a line, and groups that aren't taken.
use Rattle.std.specs.Prelude.{ℕ, ◌==◌, ◌&&◌, ◌||◌, nat_eq, nat_le, Bool, false, List, [], ◌∷◌, codes, length, position, take, Option, None, Some, if◌then◌else◌}
use Rattle.std.specs.Char.{is_ascii_alphabetic, is_ascii_alphanumeric}
use Rattle.std.specs.List.{list_all, list_any, starts_with}
use Rattle.std.specs.Str.{bytes_eq}
use Rattle.cwr_fields.specs.declared.kinds.Kind.{Kind}
use Rattle.cwr_fields.specs.Format.Bytes.{is_digit, is_spaces}
use Rattle.cwr_fields.specs.declared.kinds.Kind.TheVariants.{Grh, Spu, Spt, Swr, Swt, Ter}
use Rattle.cwr_shape.specs.declared.reasons.Reason.{Reason}
use Rattle.cwr_shape.specs.declared.reasons.Reason.TheVariants as reasons
use Rattle.cwr_causes.specs.Format.Openings.{note_words, societies_said}
use Rattle.cwr_causes.specs.Format.Refusals.{RefusedLine}

-- what separates cells in a table of a spreadsheet: a tab, a comma or a semicolon
abbrev pub is_separator : ℕ → Bool
is_separator b = (b == 9) || ((b == 44) || (b == 59))

-- such a byte stands after the record type
abbrev pub is_separated : List ℕ → Bool
is_separated (a ∷ b ∷ c ∷ d ∷ rest) = is_separator d
is_separated line = false

-- a space that may not be broken, as word processors and web pages have them
abbrev pub is_hard_space : ℕ → Bool
is_hard_space b = b == 160

-- a byte of the cell is one
abbrev pub has_hard_space : Option (List ℕ) → Bool
has_hard_space None = false
has_hard_space (Some cell) = list_any is_hard_space cell

-- the bytes stand in the line
abbrev pub holds : List ℕ → List ℕ → Bool
holds part [] = false
holds part (b ∷ rest) = starts_with nat_eq (b ∷ rest) part || holds part rest

-- a conversion put its mark in the place of a letter: U+FFFD in UTF-8
abbrev pub has_lost_letter : List ℕ → Bool
has_lost_letter line = holds (239 ∷ 191 ∷ 189 ∷ []) line

-- what names of characters are made of: letters and digits, and a number sign where it is the number
abbrev pub is_of_name : ℕ → Bool
is_of_name b = is_ascii_alphanumeric b || (b == 35)

-- two to eight such bytes
abbrev pub is_name : List ℕ → Bool
is_name text = nat_le 2 (length text) && (nat_le (length text) 8 && list_all is_of_name text)

-- a text that stands behind an ampersand names a character: by a name before its first semicolon
abbrev pub is_name_up_to : Option ℕ → List ℕ → Bool
is_name_up_to None text = false
is_name_up_to (Some at) text = is_name (take at text)

abbrev pub names_character : List ℕ → Bool
names_character text = is_name_up_to (position (λ b. b == 59) text) text

-- a character stands in the line as HTML writes it
abbrev pub has_html : List ℕ → Bool
has_html [] = false
has_html (b ∷ rest) = ((b == 38) && names_character rest) || has_html rest

-- a text begins with a digit and E+, as spreadsheets write large numbers
abbrev pub begins_exponent : List ℕ → Bool
begins_exponent [] = false
begins_exponent (b ∷ rest) = is_digit b && starts_with nat_eq rest (codes "E+")

-- such a number stands in the line
abbrev pub has_exponent : List ℕ → Bool
has_exponent [] = false
has_exponent (b ∷ rest) = begins_exponent (b ∷ rest) || has_exponent rest

-- what a conversion or a spreadsheet did to the line, as far as it shows
abbrev pub converted_of : List ℕ → Option (List ℕ)
converted_of line =
    if has_lost_letter line then Some (codes "EF BF BD stands where a conversion lost a letter: take the file as it was before that")
    else (if has_html line then Some (codes "the line has HTML, as &amp; for &: write the character itself in each line that has it, also where no fault is told")
    else (if has_exponent line
    then Some (codes "a spreadsheet wrote a large number of the line so: 7.77E+09; its digits are lost: take the file as it was before that") else None))

-- the line begins a group of transactions that societies send
abbrev pub is_societies_group : Option Kind → Option (List ℕ) → Bool
is_societies_group (Some Grh) (Some cell) = bytes_eq cell (codes "ISW") || bytes_eq cell (codes "EXC")
is_societies_group this_kind cell = false

-- the field is that of the number of one whom the submitter controls, and the cell is blank
abbrev pub lacks_party : Option Kind → ℕ → Option (List ℕ) → Bool
lacks_party (Some Spu) field (Some cell) = (field == 5) && is_spaces cell
lacks_party (Some Swr) field (Some cell) = (field == 4) && is_spaces cell
lacks_party this_kind field cell = false

-- the field is that of a territory
abbrev pub is_territory : Option Kind → ℕ → Bool
is_territory (Some Spt) field = field == 10
is_territory (Some Swt) field = field == 9
is_territory (Some Ter) field = field == 5
is_territory this_kind field = false

-- a cell begins with a letter
abbrev pub begins_with_letter : Option (List ℕ) → Bool
begins_with_letter (Some (b ∷ rest)) = is_ascii_alphabetic b
begins_with_letter cell = false

-- the cell of a territory names a country by letters
abbrev pub names_country : Option Kind → ℕ → Option (List ℕ) → Bool
names_country this_kind field cell = is_territory this_kind field && begins_with_letter cell

-- what was done to the line, as far as it shows, where the refused field holds that cell
abbrev pub handling_of : RefusedLine → Option (List ℕ) → Option (List ℕ)
handling_of r cell =
    if is_societies_group r.kind cell then Some societies_said
    else (if lacks_party r.kind r.refusal.field cell
    then Some (codes "SPU and SWR are those whom the submitter controls, and have numbers; others are OPU and OWR: is the record type mistyped?")
    else (if names_country r.kind r.refusal.field cell
    then Some (codes "a territory has a number here (TIS), and no letters: 2136 is the world; blanks would say that there is none")
    else (if is_separated r.bytes
    then Some (codes "a tab, comma or semicolon stands after the record type, as in a table of a spreadsheet: in a line each cell has its place; take the file as it was before that")
    else (if has_hard_space cell
    then Some (codes "the cell has a byte A0, a space that may not be broken, as web pages and word processors have them: put spaces (20) in their place")
    else converted_of r.bytes))))

-- the same in a note, where a cell is refused, or a number of a line as in a table, with the first fault of a line
abbrev pub handling_by : Reason → RefusedLine → Option (List ℕ) → List ℕ
handling_by (reasons.Cell fault) r cell = if r.is_first then note_words (handling_of r cell) else []
handling_by (reasons.Number expected) r cell =
    if r.is_first && is_separated r.bytes then note_words (handling_of r cell) else []
handling_by reason r cell = []

abbrev pub handling_words : RefusedLine → Option (List ℕ) → List ℕ
handling_words r cell = handling_by r.refusal.reason r cell
