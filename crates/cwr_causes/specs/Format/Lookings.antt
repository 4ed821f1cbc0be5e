-- What is looked at after a refused line.
use Rattle.std.specs.Prelude.{ℕ, ◌==◌, ◌&&◌, Bool, true, false, not, List, length, Option, None, Some, if◌then◌else◌}
use Rattle.std.specs.Option.{is_some, option_and_then}
use Rattle.cwr_fields.specs.declared.kinds.Kind.{Kind}
use Rattle.cwr_fields.specs.declared.kinds.Kind.TheVariants.{Hdr, Grh, Grt, Trl, Agr, Nwr, Rev, Ack}
use Rattle.cwr_shape.specs.declared.reasons.Reason.{Reason}
use Rattle.cwr_shape.specs.declared.reasons.Reason.TheVariants as reasons
use Rattle.cwr_judge.specs.declared.refusals.Refusal.{Refusal}
use Rattle.cwr_lines.specs.Format.Lines.{longest_line}
use Rattle.cwr_causes.specs.declared.beyond.Beyond.{Beyond}
use Rattle.cwr_causes.specs.declared.beyond.Beyond.TheVariants as beyonds
use Rattle.cwr_causes.specs.declared.lines_at_end.LineAtEnd.{LineAtEnd}
use Rattle.cwr_causes.specs.Format.Refusals.{first_kind}
use Rattle.cwr_causes.specs.Format.Sequences.{sequence_in}

-- where the sequence of transactions stands that a header's second field is, and that of records in all others' third field
abbrev pub record_start : ℕ → Option ℕ
record_start field = if field == 3 then Some 11 else None

abbrev pub header_start : ℕ → Option ℕ
header_start field = if field == 2 then Some 3 else record_start field

-- where the sequence stands in a line that a field of the kind is, from 0
abbrev pub sequence_start : Kind → ℕ → Option ℕ
sequence_start Hdr field = None
sequence_start Grh field = None
sequence_start Grt field = None
sequence_start Trl field = None
sequence_start Agr field = header_start field
sequence_start Nwr field = header_start field
sequence_start Rev field = header_start field
sequence_start Ack field = header_start field
sequence_start this_kind field = record_start field

-- the sequence that stands there
abbrev pub number_at : Option Kind → ℕ → List ℕ → Option ℕ
number_at this_kind field line =
    option_and_then (λ start. sequence_in start line) (option_and_then (λ k. sequence_start k field) this_kind)

-- the reason is a number
abbrev pub is_number : Reason → Bool
is_number (reasons.Number expected) = true
is_number reason = false

-- the line has its line feed, and the number of a sequence in it is wrong
abbrev pub asks_numbers : Refusal → LineAtEnd → Bool
asks_numbers refusal line =
    is_number refusal.reason && (line.ended && is_some (number_at (first_kind line.bytes.now) refusal.field line.bytes.now))

-- the line has as many bytes as a line may have, and no line feed so far
abbrev pub is_open : LineAtEnd → Bool
is_open line = not line.ended && (length line.bytes.now == longest_line)

-- whether such a line goes on, how numbers go on after a wrong one, or nothing
abbrev pub IsAnswer : Bool → Bool → Beyond → Type 0
IsAnswer true asks (beyonds.GoesOn more) = Unit {0}
IsAnswer false true (beyonds.Numbers ahead) = Unit {0}
IsAnswer false false beyonds.Unasked = Unit {0}
IsAnswer open_line asks beyond = ⊥

-- so it is of a refused line
abbrev pub LooksAfterLine : Refusal → LineAtEnd → Beyond → Type 0
LooksAfterLine refusal line beyond = IsAnswer (is_open line) (asks_numbers refusal line) beyond
