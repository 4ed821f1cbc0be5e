-- What the cell of a duration or of none holds, and that these meet the laws of cells.
use Rattle.std.proofs.Common.{◌≡◌, refl, sym, ap, length, ℕ, ◌<◌, List, ◌++◌, replicate, arith, inl, inr}
use mathlib.Core.HLevel.{is_prop→PathP}
use Rattle.std.specs.Coded.{le_prop}
use Rattle.cwr_fields.specs.declared.cell_types.CellType.TheVariants as types
use Rattle.cwr_fields.specs.declared.durations.PlayingTime.{PlayingTime}
use Rattle.cwr_fields.specs.declared.durations.DurationCell.{DurationCell}
use Rattle.cwr_fields.specs.declared.durations.DurationCell.TheVariants.{Blank, Lasting}
use Rattle.cwr_fields.specs.Format.Bytes.{digits}
use Rattle.cwr_fields.specs.Format.Cells.{Allows}
use Rattle.cwr_fields.specs.Format.NumberLaws.{not_spaces_after}
use Rattle.cwr_fields.specs.Format.TimeLaws.{time_text, time_width, time_fits, time_equal, time_front_width}

-- durations with the same numbers are the same
pub same_time : (x y : PlayingTime) → (x.hours ≡ y.hours) × (x.minutes ≡ y.minutes) × (x.seconds ≡ y.seconds) → x ≡ y
same_time x y same i = record {
  hours = same.0 i;
  minutes = same.1 i;
  seconds = same.2 i;
  most_hours = is_prop→PathP (λ j. same.0 j < 100) (λ j. le_prop) x.most_hours y.most_hours i;
  most_minutes = is_prop→PathP (λ j. same.1 j < 60) (λ j. le_prop) x.most_minutes y.most_minutes i;
  most_seconds = is_prop→PathP (λ j. same.2 j < 60) (λ j. le_prop) x.most_seconds y.most_seconds i;
}

-- the text of a duration or of none
abbrev pub duration_text : DurationCell → List ℕ
duration_text Blank = replicate 6 32
duration_text (Lasting t) = time_text t.hours t.minutes t.seconds

pub duration_width : (x : DurationCell) → length (duration_text x) ≡ 6
duration_width Blank = refl
duration_width (Lasting t) = time_width t.hours t.minutes t.seconds

pub duration_fits : (x : DurationCell) → Allows types.OptDuration (duration_text x)
duration_fits Blank = inl refl
duration_fits (Lasting t) = inr (time_fits 100 t.hours t.minutes t.seconds t.most_hours t.most_minutes t.most_seconds)

time_written : (t : PlayingTime) → ¬ (time_text t.hours t.minutes t.seconds ≡ replicate 6 32)
time_written t e = not_spaces_after 1 4 t.seconds (digits 2 t.hours ++ digits 2 t.minutes) (time_front_width t.hours t.minutes) e

pub duration_equal : (x y : DurationCell) → duration_text x ≡ duration_text y → x ≡ y
duration_equal Blank Blank e = refl
duration_equal Blank (Lasting t) e = absurd (time_written t (sym e))
duration_equal (Lasting t) Blank e = absurd (time_written t e)
duration_equal (Lasting t) (Lasting u) e =
    ap Lasting (same_time t u (time_equal 100 t.hours t.minutes t.seconds u.hours u.minutes u.seconds (omega arith) t.most_hours
    t.most_minutes t.most_seconds u.most_hours u.most_minutes u.most_seconds e))
