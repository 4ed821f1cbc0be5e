-- The whole line in which a record is kept.
use Rattle.std.specs.Prelude.{◌≡◌, ℕ, List, length, map}
use Rattle.cwr_fields.specs.declared.kinds.Kind.{Kind}
use Rattle.cwr_fields.specs.Format.Layouts.{layout, line_width}
use Rattle.cwr_lines.specs.Format.Lines.{pieces}
use Rattle.cwr_lines.specs.Format.Records.{RecordValue, IsRecord, record_of}

-- ---- how a record is kept

-- the carried cells of a whole line of the kind
unfoldable pub carried_cells : Kind → List ℕ → List (List ℕ)
carried_cells kind line = (record_of (record { kind = kind; cells = pieces (map (λ f. f.width) (layout kind)) line })).cells

-- the record that a whole line of the kind carries
abbrev pub record_in : Kind → List ℕ → RecordValue
record_in kind line = record { kind = kind; cells = carried_cells kind line }

-- a record is kept as a whole line of its kind
pub record KeepsRecord (kind : Kind) (line : List ℕ) : Type 0 where
  pub whole : length line ≡ line_width kind
  pub fits : IsRecord (record_in kind line)
