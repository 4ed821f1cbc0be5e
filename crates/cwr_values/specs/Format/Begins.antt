-- The rows of records that come one after another: the numbers of each are those that are counted of the records before it.
use Rattle.std.specs.Prelude.{ℕ, List, [], ◌∷◌, ◌++◌, map}
use Rattle.cwr_fields.specs.declared.kinds.Kind.{Kind}
use Rattle.cwr_lines.specs.Format.Records.{RecordValue, Row, row_of}
use Rattle.cwr_shape.specs.declared.symbols.Symbol.{Symbol}
use Rattle.cwr_shape.specs.Format.NextSymbols.{open_type, counts_of}
use Rattle.cwr_shape.specs.Format.ExpectedNumbers.{expected_numbers}
use Rattle.cwr_values.specs.Format.Values.{symbol_of}

-- the numbers of a record of the kind after these symbols, from what is counted of them
abbrev pub numbers_after : List Symbol → Kind → List ℕ
numbers_after xs kind = expected_numbers (open_type xs) (counts_of xs) kind

-- the row of a record after these records
abbrev pub row_after : List RecordValue → RecordValue → Row
row_after before r = row_of (numbers_after (map symbol_of before) r.kind) r

-- the rows of records after others
unfoldable pub rows_after : List RecordValue → List RecordValue → List Row
rows_after before [] = []
rows_after before (r ∷ rs) = row_after before r ∷ rows_after (before ++ r ∷ []) rs

-- the rows of the records that have come so far
abbrev pub rows_so_far : List RecordValue → List Row
rows_so_far records = rows_after [] records
