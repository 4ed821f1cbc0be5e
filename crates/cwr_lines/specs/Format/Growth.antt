-- When a list of records asks for memory.
use Rattle.std.specs.Prelude.{◌⊎◌, ℕ, ◌+◌, List, length, sum_by}
use Rattle.cwr_fields.specs.Format.Growth.{Outgrows}
use Rattle.cwr_fields.specs.Format.Layouts.{line_width}
use Rattle.cwr_lines.specs.Format.Records.{RecordValue}

-- the bytes of their lines, each with CR and LF
abbrev pub lines_width : List RecordValue → ℕ
lines_width records = sum_by (λ (r : RecordValue). line_width r.kind + 2) records

-- a record more asks for memory: its line outgrows the room for lines, or it outgrows the room for places
abbrev pub AsksMemory : List RecordValue → RecordValue → Type 0
AsksMemory records next =
    Outgrows 2048 (lines_width records) (lines_width records + (line_width next.kind + 2))
    ⊎ Outgrows 16 (length records) (length records + 1)
