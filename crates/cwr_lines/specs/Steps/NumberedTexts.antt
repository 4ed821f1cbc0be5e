-- The canonical text of records of one transaction, line by line.
use Rattle.std.specs.Prelude.{ℕ, ◌+◌, List, [], ◌∷◌, ◌++◌}
use Rattle.cwr_lines.specs.Format.Records.{RecordValue, full_line, row_of}

-- the text of records from record k of transaction j on: each in full width with its numbers, and then CR and LF
abbrev pub text_from : ℕ → ℕ → List RecordValue → List ℕ
text_from j k [] = []
text_from j k (r ∷ rs) = (full_line (row_of (j ∷ k ∷ []) r) ++ 13 ∷ 10 ∷ []) ++ text_from j (k + 1) rs
