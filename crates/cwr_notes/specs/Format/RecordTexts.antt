-- The text that is written of a record: its number, its kind, and its cells.
use Rattle.std.specs.Prelude.{ℕ, not, List, [], ◌∷◌, ◌++◌, codes, decimal, filter, zip, if◌then◌else◌, flat_map}
use Rattle.std.specs.List.{enumerate_from}
use Rattle.cwr_fields.specs.Format.Bytes.{is_spaces, trimmed}
use Rattle.cwr_fields.specs.declared.kinds.Kind.{Kind}
use Rattle.cwr_fields.specs.Format.Kinds.{letters}
use Rattle.cwr_fields.specs.Format.Layouts.{FieldLayout, layout}
use Rattle.cwr_lines.specs.Format.Records.{RecordValue}

-- a carried cell under its field's number and name, unless it is blank
abbrev pub cell_line : ℕ → FieldLayout → List ℕ → List ℕ
cell_line j f cell =
    if is_spaces cell then [] else codes "  " ++ decimal j ++ codes " " ++ f.name ++ codes ": " ++ trimmed cell ++ 10 ∷ []

-- the line of record n, by its number and kind
abbrev pub head_line : ℕ → Kind → List ℕ
head_line n kind = decimal n ++ codes " " ++ letters kind ++ 10 ∷ []

-- the lines of a record's cells
unfoldable pub cell_lines : RecordValue → List ℕ
cell_lines r =
    flat_map (λ p. cell_line p.0.0 p.0.1 p.1) (zip (filter (λ q. not q.1.derived) (enumerate_from 1 (layout r.kind))) r.cells)

-- record n, and its cells
abbrev pub record_lines : ℕ → RecordValue → List ℕ
record_lines n r = head_line n r.kind ++ cell_lines r

-- records, numbered from n on
abbrev pub numbered_records : ℕ → List RecordValue → List ℕ
numbered_records n records = flat_map (λ p. record_lines p.0 p.1) (enumerate_from n records)
