-- What a day's cell holds, and that days meet the laws of cells.
use Rattle.std.proofs.Common.{◌≡◌, refl, sym, ◌∙◌, length, ℕ, ◌^◌, ◌<◌, ◌≤◌, List, ◌++◌, arith, length-append, Bool, true, false}
use Rattle.std.proofs.Common.{cond, ℤ, pos}
use Rattle.std.proofs.lemmas.Int.{ints}
use Rattle.jiff.specs.Words.{IsDate, days_in_month}
use Rattle.cwr_fields.specs.Format.Bytes.{digits}
use Rattle.cwr_fields.specs.Format.Cells.{SpellsDay}
use Rattle.cwr_fields.specs.Format.NumberLaws.{number_width, number_equal, digits_after}

-- the text of a year, a month and a day
abbrev pub day_text : ℕ → ℕ → ℕ → List ℕ
day_text year month day = digits 4 year ++ digits 2 month ++ digits 2 day

pub day_width : (y m d : ℕ) → length (day_text y m d) ≡ 8
day_width y m d =
    omega (
      arith,
      length-append (digits 4 y ++ digits 2 m) (digits 2 d),
      length-append (digits 4 y) (digits 2 m),
      number_width 4 y,
      number_width 2 m,
      number_width 2 d,
    )

pub date_front_width : (y m : ℕ) → length (digits 4 y ++ digits 2 m) ≡ 6
date_front_width y m = omega (arith, length-append (digits 4 y) (digits 2 m), number_width 4 y, number_width 2 m)

pub day_fits : (y m d : ℕ) → 0 < y → IsDate (pos y) (pos m) (pos d) → SpellsDay (day_text y m d)
day_fits y m d some civil = (y, m, d, some, civil, refl)

month_at_most : (b : Bool) (c d : ℕ) → c ≤ 31 → d ≤ 31 → cond b c d ≤ 31
month_at_most true c d p q = p
month_at_most false c d p q = q

-- no month has more than 31 days
pub days_in_month_most : (y : ℤ) (m : ℕ) → days_in_month y m ≤ 31
days_in_month_most y m =
    month_at_most _ _ _ (month_at_most _ 29 28 (omega arith) (omega arith)) (month_at_most _ 30 31 (omega arith) (omega arith))

-- the numbers of a day fit their digits
pub day_bounds : (y m d : ℕ) → IsDate (pos y) (pos m) (pos d) → (y < 10 ^ 4) × (m < 10 ^ 2) × (d < 10 ^ 2)
day_bounds y m d civil = (omega (arith, ints), omega (arith, ints), omega (arith, ints, days_in_month_most (pos y) m))

pub day_equal : (y m d y' m' d' : ℕ) → IsDate (pos y) (pos m) (pos d) → IsDate (pos y') (pos m') (pos d')
    → day_text y m d ≡ day_text y' m' d' → (y ≡ y') × (m ≡ m') × (d ≡ d')
day_equal y m d y' m' d' civil civil' e =
    let b = day_bounds y m d civil in
    let b' = day_bounds y' m' d' civil' in
    let fronts : length (digits 4 y ++ digits 2 m) ≡ length (digits 4 y' ++ digits 2 m') =
    date_front_width y m ∙ sym (date_front_width y' m') in
    let last = digits_after 2 d d' (digits 4 y ++ digits 2 m) (digits 4 y' ++ digits 2 m') fronts b.2 b'.2 e in
    let rest = digits_after 2 m m' (digits 4 y) (digits 4 y') (number_width 4 y ∙ sym (number_width 4 y')) b.1 b'.1 last.0 in
    (number_equal 4 y y' b.0 b'.0 rest.0, rest.1, last.1)
