-- Whose a transaction is, in words: the number and the title of the work that it is about, or the number of the agreement.
use Rattle.std.specs.Prelude.{ℕ, Bool, true, false, ◌&&◌, List, [], ◌∷◌, ◌++◌, codes, flat_map, slice_get, if◌then◌else◌}
use Rattle.std.specs.Option.{option_to_list}
use Rattle.cwr_fields.specs.Format.Bytes.{is_spaces, trimmed}
use Rattle.cwr_fields.specs.declared.kinds.Kind.TheVariants as kinds
use Rattle.cwr_lines.specs.Format.Records.{RecordValue}
use Rattle.cwr_findings.specs.Format.Findings.{is_a}
use Rattle.cwr_findings.specs.Format.Headers.{work_number, work_title}

-- what the line says, of an agreement or of a work
abbrev pub name_label : Bool → List ℕ
name_label true = codes "  agreement "
name_label false = codes "  work      "

-- a number and a title without trailing spaces; what is blank is left out
abbrev pub name_words : List ℕ → List ℕ → List ℕ
name_words number title =
    if is_spaces number then trimmed title
    else (if is_spaces title then trimmed number else trimmed number ++ 32 ∷ trimmed title)

-- the line on them; where both are blank there is none
abbrev pub name_line : Bool → List ℕ → List ℕ → List ℕ
name_line is_agreement number title =
    if is_spaces number && is_spaces title then [] else name_label is_agreement ++ name_words number title ++ 10 ∷ []

-- the line on the work or the agreement of that header, or on the work that an acknowledgement answers
unfoldable pub work_line : RecordValue → List ℕ
work_line head = name_line (is_a kinds.Agr head) (work_number head) (work_title head)

-- the same of a transaction, whose header is its first record
unfoldable pub work_of : List RecordValue → List ℕ
work_of t = flat_map work_line (option_to_list (slice_get t 0))
