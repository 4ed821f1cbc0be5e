-- What is counted, a part after another.
use Rattle.std.specs.Prelude.{ℕ, ◌+◌, ◌-◌, ◌^◌, min, List, slice_index, slice_set}
use Rattle.std.specs.List.{fold}
use Rattle.cwr_summary.specs.Format.Columns.{place}
use Rattle.cwr_summary.specs.Format.Summaries.{Part}

-- a number in 64 bits: it stays at the highest
abbrev pub held : ℕ → ℕ
held n = min n (2 ^ 64 - 1)

-- the numbers with a part more
abbrev pub added : List ℕ → Part → List ℕ
added numbers part = slice_set numbers (place part.0) (held (slice_index numbers (place part.0) + part.1))

-- the numbers with these parts more
abbrev pub counted : List ℕ → List Part → List ℕ
counted numbers parts = fold added numbers parts
