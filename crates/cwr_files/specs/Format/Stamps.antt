-- The bytes of a transmission whose creation date and time are others.
use Rattle.std.specs.Prelude.{◌≡◌, ◌+◌, ◌-◌, ◌/◌, ◌%◌, ℕ, List, ◌++◌, drop, take, length, min, nat_lt, nat_le, Option, Some, None, if◌then◌else◌}
use Rattle.cwr_fields.specs.Format.DateLaws.{day_text}
use Rattle.cwr_fields.specs.Format.TimeLaws.{time_text}
use Rattle.cwr_moments.specs.declared.moments.Moment.{Moment}
use Rattle.cwr_moments.specs.Format.Moments.{second_of_day}

-- The piece that is written after so many bytes in the place of a text: where HDR's creation date and time stand, bytes 64 to 77 of the
-- first line, those of these cells, and else the text's own.
abbrev pub stamped : List ℕ → ℕ → List ℕ → List ℕ → Type 0
stamped cells at text piece =
    piece ≡ (if nat_le 78 at then text
    else if nat_lt at 64 then take (min (length text) (64 - at)) text
    else take (min (length text) (14 - (at - 64))) (drop (at - 64) cells))

-- the cells of the second of the day of a moment: the date, and hours, minutes and seconds
abbrev pub cells_at : Moment → ℕ → List ℕ
cells_at m second = day_text m.date.year m.date.month m.date.day ++ time_text (second / 3600) (second / 60 % 60) (second % 60)

-- those of the moment so many seconds later
abbrev pub later_cells : Moment → ℕ → List ℕ
later_cells m seconds = cells_at m (second_of_day m + seconds)

-- The text with these cells where HDR's creation date and time stand, bytes 64 to 77 of the first line.
abbrev pub with_created : List ℕ → List ℕ → List ℕ
with_created cells text = take 64 text ++ take (length text - 64) cells ++ drop 78 text

-- so it is where there are any
abbrev pub created_by : Option (List ℕ) → List ℕ → List ℕ
created_by None text = text
created_by (Some cells) text = with_created cells text
