-- What is said of an input that ends too early.
use Rattle.std.specs.Prelude.{ℕ, ◌==◌, ◌||◌, nat_le, Bool, List, [], ◌∷◌, ◌++◌, codes, decimal, Option, None, Some}
use Rattle.std.specs.Prelude.{if◌then◌else◌, length}
use Rattle.std.specs.List.{concat}
use Rattle.cwr_fields.specs.declared.kinds.Kind.{Kind}
use Rattle.cwr_fields.specs.Format.Kinds.{letters}
use Rattle.cwr_fields.specs.Format.Layouts.{line_width}
use Rattle.cwr_causes.specs.Format.Texts.{label_words}

-- after which record, by its letters, and how many bytes it ends
unfoldable pub last_words : List ℕ → List ℕ → ℕ → ℕ → List ℕ
last_words name of_kind records bytes =
    concat
    (name ∷ codes ", after line " ∷ decimal records ∷ codes ", " ∷ of_kind ∷ codes ": the file ends there, after byte "
    ∷ decimal bytes ∷ codes "\n" ∷ [])

-- the same where there is a record, and else that it is empty
abbrev pub place_of_end : List ℕ → Option Kind → ℕ → ℕ → List ℕ
place_of_end name None records bytes = name ++ codes ": the file is empty\n"
place_of_end name (Some this_kind) records bytes =
    if records == 0 then name ++ codes ": the file is empty\n" else last_words name (letters this_kind) records bytes

-- the line that says where it ends
unfoldable pub end_words : List ℕ → Option Kind → ℕ → ℕ → List ℕ
end_words name this_kind records bytes = label_words (codes "where") ++ place_of_end name this_kind records bytes

-- the bytes of a whole line of the kind, and of its letters where it names none
abbrev pub whole_width : Option Kind → ℕ
whole_width None = 3
whole_width (Some this_kind) = line_width this_kind

-- that a last line has no line end, and so many bytes of so many
unfoldable pub cut_off_line : ℕ → ℕ → List ℕ
cut_off_line count whole =
    concat
    (label_words (codes "note") ∷ codes "the last line has no line end and " ∷ decimal count ∷ codes " of " ∷ decimal whole
    ∷ codes " bytes: the file may have been cut off\n" ∷ [])

-- the same of a line that may have been cut off
abbrev pub cut_off_words : List ℕ → Bool → Option Kind → List ℕ
cut_off_words line ended this_kind =
    if ended || nat_le (whole_width this_kind) (length line) then [] else cut_off_line (length line) (whole_width this_kind)

-- the same of the last line of so many, if there is one
abbrev pub last_cut_off_words : ℕ → List ℕ → Bool → Option Kind → List ℕ
last_cut_off_words records line ended this_kind = if records == 0 then [] else cut_off_words line ended this_kind

-- that what comes after the last line of so many is missing, if there is one
unfoldable pub rest_line : List ℕ
rest_line =
    label_words (codes "note")
    ++ codes "what stood after that is missing, and works may have been in it: get the file again, and whole\n"

abbrev pub rest_words : ℕ → List ℕ
rest_words records = if records == 0 then [] else rest_line
