-- A second of a day, as a word and as two cells.
use Rattle.std.specs.Prelude.{ℕ, ◌+◌, ◌*◌, List, ◌∷◌, ◌++◌}
use Rattle.cwr_fields.specs.Format.DateLaws.{day_text}
use Rattle.cwr_fields.specs.Format.TimeLaws.{time_text}
use Rattle.cwr_moments.specs.declared.moments.Moment.{Moment}

-- the day, the letter T and the time
abbrev pub moment_text : Moment → List ℕ
moment_text m = day_text m.date.year m.date.month m.date.day ++ 84 ∷ time_text m.time.hour m.time.minute m.time.second

-- the day and the time
abbrev pub moment_cells : Moment → List ℕ
moment_cells m = day_text m.date.year m.date.month m.date.day ++ time_text m.time.hour m.time.minute m.time.second

-- how many seconds of the day have gone
abbrev pub second_of_day : Moment → ℕ
second_of_day m = m.time.hour * 3600 + m.time.minute * 60 + m.time.second
