-- Whose a refused line is: the work or the agreement of its transaction.
use Rattle.std.specs.Prelude.{◌≡◌, ◌⊎◌, ℕ, ◌-◌, ◌==◌, Bool, true, false, not, List, [], ◌++◌, codes, flat_map, length, take, Option, None, Some, if◌then◌else◌}
use Rattle.std.specs.Option.{option_and_then}
use Rattle.std.specs.Str.{is_utf8}
use Rattle.cwr_fields.specs.declared.kinds.Kind.{Kind}
use Rattle.cwr_fields.specs.declared.kinds.Kind.TheVariants.{Hdr, Grh, Grt, Trl, Agr, Nwr, Rev, Ack}
use Rattle.cwr_fields.specs.Format.Bytes.{is_plain}
use Rattle.cwr_lines.specs.Format.Records.{RecordValue}
use Rattle.cwr_shape.specs.declared.reasons.Reason.{Reason}
use Rattle.cwr_shape.specs.declared.reasons.Reason.TheVariants as reasons
use Rattle.cwr_findings.specs.Format.Findings.{is_a}
use Rattle.cwr_notes.specs.Format.WorkNames.{name_line, work_line}
use Rattle.cwr_causes.specs.Format.Sequences.{sequence_in}
use Rattle.cwr_causes.specs.Format.Texts.{byte_words}

-- the cells of a line by their fields, as far as it has them
abbrev pub Cells : Type 0
Cells = ℕ → Option (List ℕ)

-- what stands in a cell, where the line has it and no control character is in it
abbrev pub plain_text : Option (List ℕ) → List ℕ
plain_text None = []
plain_text (Some cell) = if is_plain cell then cell else []

-- the line on the work or the agreement that a line of a header's kind names: of NWR and REV submitter work number and title, of ACK submitter
-- creation number and creation title, of AGR submitter agreement number
unfoldable pub own_work_by : Option Kind → Cells → List ℕ
own_work_by (Some Nwr) cell = name_line false (plain_text (cell 6)) (plain_text (cell 4))
own_work_by (Some Rev) cell = name_line false (plain_text (cell 6)) (plain_text (cell 4))
own_work_by (Some Ack) cell = name_line false (plain_text (cell 10)) (plain_text (cell 9))
own_work_by (Some Agr) cell = name_line true (plain_text (cell 4)) []
own_work_by this_kind cell = []

-- the line is NWR or REV
abbrev pub IsWorkHeader : Option Kind → Type 0
IsWorkHeader this_kind = (this_kind ≡ Some Nwr) ⊎ (this_kind ≡ Some Rev)

-- the number is that of a further record of a transaction, whose header has number 0
abbrev pub is_after_header : Option ℕ → Bool
is_after_header None = false
is_after_header (Some n) = not (n == 0)

-- such a number stands in the cell of its record sequence: then it heads no transaction, though its kind is a header's
abbrev pub is_further_by : Cells → Bool
is_further_by cell = is_after_header (option_and_then (sequence_in 0) (cell 3))

-- that of the open transaction, which has that header
abbrev pub open_work : Option RecordValue → List ℕ
open_work None = []
open_work (Some head) = work_line head

-- that of the open acknowledgement
abbrev pub copy_work : Option RecordValue → List ℕ
copy_work None = []
copy_work (Some head) = if is_a Ack head then work_line head else []

-- that of a line of a header's kind: its own, but a copy's is that of the acknowledgement in which it stands
abbrev pub begun_work_by : Option RecordValue → Option Kind → Cells → List ℕ
begun_work_by header this_kind cell = if is_further_by cell then copy_work header else own_work_by this_kind cell

-- The line on the work of a line of that kind that stands in its place, after records of which a transaction with that header is open: a
-- header's is its own, a line outside transactions has none, and that of any other is the open transaction's.
unfoldable pub work_in_place : Option RecordValue → Option Kind → Cells → List ℕ
work_in_place header (Some Hdr) cell = []
work_in_place header (Some Grh) cell = []
work_in_place header (Some Grt) cell = []
work_in_place header (Some Trl) cell = []
work_in_place header (Some Nwr) cell = begun_work_by header (Some Nwr) cell
work_in_place header (Some Rev) cell = begun_work_by header (Some Rev) cell
work_in_place header (Some Ack) cell = begun_work_by header (Some Ack) cell
work_in_place header (Some Agr) cell = begun_work_by header (Some Agr) cell
work_in_place header this_kind cell = open_work header

-- a line that is refused so doesn't stand in its place
abbrev pub is_out_of_place : Reason → Bool
is_out_of_place reasons.UnknownKind = true
is_out_of_place reasons.Misplaced = true
is_out_of_place reason = false

-- that of a header of that kind after records of which a transaction is open: where that is of its kind, it isn't whole, and the line is
-- on its work; else on the header's own
abbrev pub next_work_by : Option RecordValue → Option Kind → Cells → List ℕ
next_work_by (Some head) (Some this_kind) cell =
    if is_a this_kind head then work_line head else own_work_by (Some this_kind) cell
next_work_by header this_kind cell = own_work_by this_kind cell

-- that of a line of a header's kind by its record sequence, where a sequence stands there
abbrev pub work_by_number : Option RecordValue → Option Kind → Cells → Option ℕ → List ℕ
work_by_number header this_kind cell None = open_work header
work_by_number header this_kind cell (Some n) = if n == 0 then next_work_by header this_kind cell else copy_work header

unfoldable pub headed_work_by : Option RecordValue → Option Kind → Cells → List ℕ
headed_work_by header this_kind cell = work_by_number header this_kind cell (option_and_then (sequence_in 0) (cell 3))

-- The same of a line that doesn't stand in its place: a header's is its own, where it doesn't come too early after one of its kind, and that
-- of any other is the open transaction's.
unfoldable pub work_out_of_place : Option RecordValue → Option Kind → Cells → List ℕ
work_out_of_place header (Some Nwr) cell = headed_work_by header (Some Nwr) cell
work_out_of_place header (Some Rev) cell = headed_work_by header (Some Rev) cell
work_out_of_place header (Some Ack) cell = headed_work_by header (Some Ack) cell
work_out_of_place header (Some Agr) cell = headed_work_by header (Some Agr) cell
work_out_of_place header this_kind cell = open_work header

-- the same of a line that is refused for that reason
abbrev pub work_refused_by : Option RecordValue → Reason → Option Kind → Cells → List ℕ
work_refused_by header reason this_kind cell =
    if is_out_of_place reason then work_out_of_place header this_kind cell else work_in_place header this_kind cell

-- The line as it is shown: where its bytes are no text, each that isn't printable by its number.
abbrev pub shown_line : List ℕ → List ℕ
shown_line line = if is_utf8 line then line else flat_map byte_words (take (length line - 1) line) ++ codes "\n"
