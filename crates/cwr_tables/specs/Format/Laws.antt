-- What the laws say.
use Rattle.std.specs.Prelude.{◌≡◌, ℕ, ◌≤◌, List, length}
use Rattle.std.specs.List.{AllByRecursion, flat_map}
use Rattle.csv.specs.Reading.{default_config, records}
use Rattle.cwr_tables.specs.Format.Tables.{row_text}

-- two cells or more
abbrev pub HasTwo : List (List ℕ) → Type 0
HasTwo row = 2 ≤ length row

-- rows of two cells or more, one after another, are read back by the rules of RFC 4180 as these rows
abbrev pub RowsReadBack : Type 0
RowsReadBack = (rows : List (List (List ℕ))) → AllByRecursion HasTwo rows → records default_config (flat_map row_text rows) ≡ rows
