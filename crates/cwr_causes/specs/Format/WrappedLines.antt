-- Lines that a mail program broke.
use Rattle.std.specs.Prelude.{ℕ, ◌+◌, ◌-◌, ◌&&◌, not, nat_le, nat_lt, is_none, Bool, false, List, [], ◌∷◌, ◌++◌, codes, decimal, drop, length, Option, None, Some}
use Rattle.std.specs.Prelude.{if◌then◌else◌}
use Rattle.std.specs.List.{concat}
use Rattle.std.specs.Str.{bytes_eq}
use Rattle.cwr_fields.specs.declared.kinds.Kind.{Kind}
use Rattle.cwr_fields.specs.Format.Layouts.{FieldLayout, line_width}
use Rattle.cwr_lines.specs.Format.Lines.{without_cr}
use Rattle.cwr_shape.specs.declared.reasons.Reason.{Reason}
use Rattle.cwr_shape.specs.declared.reasons.Reason.TheVariants as reasons
use Rattle.cwr_causes.specs.Format.Misplacements.{numbers_in}
use Rattle.cwr_causes.specs.Format.Openings.{is_other, opening_of}
use Rattle.cwr_causes.specs.Format.Refusals.{RefusedLine, first_kind, refused_field, up_to_largest, without_return}
use Rattle.cwr_causes.specs.Format.Texts.{label_words}

-- ---- a line

-- it has as many bytes as lines that mail programs break
abbrev pub is_mail_wide : List ℕ → Bool
is_mail_wide line = nat_le 70 (length line) && nat_le (length line) 80

-- it has all bytes of a line of its kind
abbrev pub is_full : Option Kind → List ℕ → Bool
is_full None line = false
is_full (Some this_kind) line = nat_le (line_width this_kind) (length line)

-- its last byte is =, with which quoted-printable text goes on
abbrev pub ends_soft : List ℕ → Bool
ends_soft line = bytes_eq (drop (length line - 1) line) (codes "=")

-- ---- what is said of it

unfoldable pub soft_line : List ℕ
soft_line =
    label_words (codes "note")
    ++ codes "a line ends with = here, as lines of quoted-printable text do, in which mails carry files: decode it\n"

unfoldable pub broken_before_line : ℕ → List ℕ
broken_before_line count =
    concat
    (label_words (codes "note") ∷ codes "the line before it has " ∷ decimal count
    ∷ codes " bytes, as lines have that mail programs break: if this one goes on with it, put both together; if no line is longer and none goes on, all were cut there, and the rest is lost\n" ∷ [])

unfoldable pub broken_here_line : ℕ → List ℕ
broken_here_line count =
    concat
    (label_words (codes "note") ∷ codes "the line has " ∷ decimal count
    ∷ codes " bytes, as lines have that mail programs break: if the next one goes on with it, put both together; if no line is longer and none goes on, all were cut there, and the rest is lost\n" ∷ [])

unfoldable pub cut_here_line : ℕ → List ℕ
cut_here_line count =
    concat
    (label_words (codes "note") ∷ codes "the line ends after byte " ∷ decimal count
    ∷ codes ": if the next one goes on with it, put both together; if no line is longer, all were cut there, and the rest is lost\n" ∷ [])

unfoldable pub short_before_line : List ℕ
short_before_line =
    label_words (codes "note")
    ++ codes "the line before it is shorter than lines of its kind: if this one goes on with it, put both together; if it was put in, as a heading or a comment, remove it\n"

unfoldable pub foreign_line : List ℕ
foreign_line =
    label_words (codes "note") ++ codes "nothing in this line is of a record: if it was put in, as a heading or a comment, remove it\n"

unfoldable pub strangers_line : List ℕ
strangers_line =
    label_words (codes "note")
    ++ codes "neither this line nor the one before it begins with a record type: if most lines are so, something was done to the whole file: take it as it was before that; remove only lines that were put in\n"

-- that a line may go on with the one before it, of that kind, which is no full one
abbrev pub unfinished_line : Option Kind → List ℕ
unfinished_line None = strangers_line
unfinished_line (Some this_kind) = short_before_line

-- a line that names no record, has no sequences and looks like nothing else may go on with the one before
abbrev pub may_go_on : List ℕ → Bool
may_go_on line = is_none (numbers_in line) && is_other (opening_of line)

-- it names no record, and looks like something else: a line in base64, say
abbrev pub is_strange : List ℕ → Bool
is_strange line = is_none (first_kind line) && not (is_other (opening_of line))

-- what the line before one shows that names no record, and may go on with it or not
abbrev pub broken_before : Bool → List ℕ → List ℕ
broken_before goes_on line =
    if ends_soft line then soft_line
    else (if is_strange line then []
    else (if is_full (first_kind line) line then (if goes_on then foreign_line else [])
    else (if is_mail_wide line then broken_before_line (length line)
    else (if goes_on then unfinished_line (first_kind line) else []))))

abbrev pub broken_before_if : Bool → Option (List ℕ) → List ℕ
broken_before_if goes_on None = []
broken_before_if goes_on (Some line) = broken_before goes_on (without_cr line)

-- the refused field doesn't stand whole in the line
abbrev pub is_cut : Option (ℕ × FieldLayout) → List ℕ → Bool
is_cut None line = false
is_cut (Some f) line = nat_lt (length line) (up_to_largest (f.0 + f.1.width))

-- what a line with its line feed shows in which the refused field doesn't stand whole
abbrev pub broken_at : Option (ℕ × FieldLayout) → List ℕ → List ℕ
broken_at refused line =
    if is_cut refused line then (if ends_soft line then soft_line
    else (if is_mail_wide line then broken_here_line (length line) else cut_here_line (length line))) else []

abbrev pub broken_here : RefusedLine → List ℕ
broken_here r = if r.ended then broken_at (refused_field r) (without_return r) else []

abbrev pub broken_by : RefusedLine → Reason → List ℕ
broken_by r reasons.UnknownKind = broken_before_if (may_go_on r.bytes) r.before
broken_by r reason = broken_here r

-- that the line or the one before it may have been broken
abbrev pub broken_words : RefusedLine → List ℕ
broken_words r = broken_by r r.refusal.reason
