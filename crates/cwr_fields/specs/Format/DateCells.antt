-- What the cell of a day or of none holds, and that these meet the laws of cells.
use Rattle.std.proofs.Common.{◌≡◌, refl, sym, ap, length, ℕ, ◌<◌, List, ◌++◌, replicate, get_or, arith, inl, inr, lit<, pos}
use mathlib.Core.HLevel.{is_prop→PathP}
use denote.Struct.Props.{props}
use Rattle.std.specs.Coded.{le_prop}
use Rattle.jiff.specs.Words.{IsDate}
use Rattle.cwr_fields.specs.declared.cell_types.CellType.TheVariants as types
use Rattle.cwr_fields.specs.declared.dates.CivilDate.{CivilDate}
use Rattle.cwr_fields.specs.declared.dates.DateCell.{DateCell}
use Rattle.cwr_fields.specs.declared.dates.DateCell.TheVariants.{Blank, Zeros, Day}
use Rattle.cwr_fields.specs.Format.Bytes.{digits}
use Rattle.cwr_fields.specs.Format.Cells.{Allows}
use Rattle.cwr_fields.specs.Format.NumberLaws.{number_width, number_equal, not_spaces_after, parts_equal}
use Rattle.cwr_fields.specs.Format.DateLaws.{day_text, day_width, day_fits, day_equal, day_bounds, date_front_width}

-- days with the same numbers are the same
pub same_day : (x y : CivilDate) → (x.year ≡ y.year) × (x.month ≡ y.month) × (x.day ≡ y.day) → x ≡ y
same_day x y same i = record {
  year = same.0 i;
  month = same.1 i;
  day = same.2 i;
  after_zero = is_prop→PathP (λ j. 0 < same.0 j) (λ j. le_prop) x.after_zero y.after_zero i;
  civil = is_prop→PathP (λ j. IsDate (pos (same.0 j)) (pos (same.1 j)) (pos (same.2 j))) (λ j. hlevel props) x.civil y.civil i;
}

-- the text of a day or of none
abbrev pub date_text : DateCell → List ℕ
date_text Blank = replicate 8 32
date_text Zeros = replicate 8 48
date_text (Day d) = day_text d.year d.month d.day

pub date_width : (x : DateCell) → length (date_text x) ≡ 8
date_width Blank = refl
date_width Zeros = refl
date_width (Day d) = day_width d.year d.month d.day

pub date_fits : (x : DateCell) → Allows types.OptDate (date_text x)
date_fits Blank = inl refl
date_fits Zeros = inr (inl refl)
date_fits (Day d) = inr (inr (day_fits d.year d.month d.day d.after_zero d.civil))

-- a day's text is none of the others
day_written : (d : CivilDate) → ¬ (day_text d.year d.month d.day ≡ replicate 8 32)
day_written d e = not_spaces_after 1 6 d.day (digits 4 d.year ++ digits 2 d.month) (date_front_width d.year d.month) e

day_not_zeros : (d : CivilDate) → ¬ (day_text d.year d.month d.day ≡ replicate 8 48)
unfolding digits
day_not_zeros d e =
    let b = day_bounds d.year d.month d.day d.civil in
    let some : 0 < d.year = d.after_zero in
    let front =
    parts_equal (digits 4 d.year ++ digits 2 d.month) (digits 2 d.day) (digits 4 0 ++ digits 2 0) (digits 2 0)
    (date_front_width d.year d.month) e in
    let years = parts_equal (digits 4 d.year) (digits 2 d.month) (digits 4 0) (digits 2 0) (number_width 4 d.year) front.0 in
    let none : d.year ≡ 0 = number_equal 4 d.year 0 b.0 (lit< tt) years.0 in
    omega (arith, none)

blank_or_zeros : ¬ (replicate {A = ℕ} 8 32 ≡ replicate 8 48)
blank_or_zeros e = let first : 32 ≡ 48 = ap (λ (l : List ℕ). get_or l 0 0) e in omega (arith, first)

days_equal : (d b : CivilDate) → day_text d.year d.month d.day ≡ day_text b.year b.month b.day → Day d ≡ Day b
days_equal d b e = ap Day (same_day d b (day_equal d.year d.month d.day b.year b.month b.day d.civil b.civil e))

pub date_equal : (x y : DateCell) → date_text x ≡ date_text y → x ≡ y
date_equal Blank Blank e = refl
date_equal Blank Zeros e = absurd (blank_or_zeros e)
date_equal Blank (Day d) e = absurd (day_written d (sym e))
date_equal Zeros Blank e = absurd (blank_or_zeros (sym e))
date_equal Zeros Zeros e = refl
date_equal Zeros (Day d) e = absurd (day_not_zeros d (sym e))
date_equal (Day d) Blank e = absurd (day_written d e)
date_equal (Day d) Zeros e = absurd (day_not_zeros d e)
date_equal (Day d) (Day b) e = days_equal d b e
