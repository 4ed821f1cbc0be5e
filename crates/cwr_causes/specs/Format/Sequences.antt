-- The sequence that stands in a line.
use Rattle.std.specs.Prelude.{◌≡◌, ℕ, ◌-◌, ◌^◌, ◌==◌, min, List, Option, None, Some, take, drop, if◌then◌else◌}
use Rattle.std.specs.Str.{bytes_eq}
use Rattle.cwr_fields.specs.Format.Bytes.{digits, number_of}

-- from that byte of the line on, from 0, the eight digits of the number stand
abbrev pub HasSequence : ℕ → ℕ → List ℕ → Type 0
HasSequence start n line = take 8 (drop start line) ≡ digits 8 n

-- the number that digits write, or the largest one of 64 bits where that is larger
abbrev pub capped_number : List ℕ → ℕ
capped_number text = min (number_of text) (2 ^ 64 - 1)

-- the number of eight digits
abbrev pub sequence_of : List ℕ → Option ℕ
sequence_of text = if bytes_eq text (digits 8 (capped_number text)) then Some (capped_number text) else None

-- the sequence that stands in a line from that byte on, from 0, if one does
abbrev pub sequence_in : ℕ → List ℕ → Option ℕ
sequence_in start line = sequence_of (take 8 (drop start line))

-- where the sequence of a field stands in a line: the first byte, from 0
abbrev pub start_of_sequence : ℕ → ℕ
start_of_sequence field = if field == 2 then 3 else 11
