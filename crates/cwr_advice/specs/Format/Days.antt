-- Days that cells of dates name.
use Rattle.std.specs.Prelude.{ℕ, Bool, false, ◌&&◌, ◌==◌, nat_lt, List, length, Option, Some, None, if◌then◌else◌}
use Rattle.cwr_fields.specs.Format.Bytes.{number_of}
use Rattle.cwr_findings.specs.Format.Findings.{is_day}

-- the day that a cell names, as the number of its eight digits: their order is that of days; spaces and zeros name none
abbrev pub day_in : List ℕ → Option ℕ
day_in cell = if (length cell == 8) && is_day cell then Some (number_of cell) else None

-- the first of two days is after the second one, where both are known
abbrev pub is_after : Option ℕ → Option ℕ → Bool
is_after None sent = false
is_after (Some day) None = false
is_after (Some day) (Some sent) = nat_lt sent day

-- the cell names a day after that one
abbrev pub is_to_come : Option ℕ → List ℕ → Bool
is_to_come sent cell = is_after (day_in cell) sent
