-- A transmission as one that is created at a moment.
use Rattle.std.specs.Prelude.{ℕ, nat_lt, List, Option, Some, None, if◌then◌else◌}
use Rattle.cwr_fields.specs.Format.Bytes.{number_of}
use Rattle.cwr_fields.specs.Format.DateLaws.{day_text}
use Rattle.cwr_fields.specs.Format.TimeLaws.{time_text}
use Rattle.cwr_lines.specs.Format.Carried.{set_cell}
use Rattle.cwr_lines.specs.Format.Records.{RecordValue, cell_named}
use Rattle.cwr_moments.specs.declared.moments.Moment.{Moment}
use Rattle.cwr_values.specs.Format.Values.{TransmissionValue}

-- the day and the time of a moment, as cells
abbrev pub day_cell : Moment → List ℕ
day_cell m = day_text m.date.year m.date.month m.date.day

abbrev pub time_cell : Moment → List ℕ
time_cell m = time_text m.time.hour m.time.minute m.time.second

-- the later of two days, each as a cell
abbrev pub later_day : List ℕ → List ℕ → List ℕ
later_day one other = if nat_lt (number_of one) (number_of other) then other else one

-- HDR with the moment as its creation date and time; a transmission date before that day is that day
abbrev pub created_header : Moment → RecordValue → RecordValue
created_header m r =
    set_cell 8 (later_day (cell_named "transmission date" r) (day_cell m)) (set_cell 7 (time_cell m) (set_cell 6 (day_cell m) r))

-- the transmission with that HDR; without a moment it stays
abbrev pub created_at : Option Moment → TransmissionValue → TransmissionValue
created_at None v = v
created_at (Some m) v = record { opening = created_header m v.opening; groups = v.groups }
