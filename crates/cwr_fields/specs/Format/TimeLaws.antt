-- What the cell of a time or a duration holds, and that these meet the laws of cells.
use Rattle.std.proofs.Common.{◌≡◌, refl, sym, ◌∙◌, length, ℕ, ◌<◌, ◌≤◌, List, ◌++◌, arith, length-append}
use Rattle.cwr_fields.specs.Format.Bytes.{digits}
use Rattle.cwr_fields.specs.Format.Cells.{SpellsTime}
use Rattle.cwr_fields.specs.Format.NumberLaws.{number_width, number_equal, digits_after}

-- the text of hours, minutes and seconds
abbrev pub time_text : ℕ → ℕ → ℕ → List ℕ
time_text hours minutes seconds = digits 2 hours ++ digits 2 minutes ++ digits 2 seconds

pub time_width : (h m s : ℕ) → length (time_text h m s) ≡ 6
time_width h m s =
    omega (
      arith,
      length-append (digits 2 h ++ digits 2 m) (digits 2 s),
      length-append (digits 2 h) (digits 2 m),
      number_width 2 h,
      number_width 2 m,
      number_width 2 s,
    )

pub time_front_width : (h m : ℕ) → length (digits 2 h ++ digits 2 m) ≡ 4
time_front_width h m = omega (arith, length-append (digits 2 h) (digits 2 m), number_width 2 h, number_width 2 m)

pub time_fits : (bound h m s : ℕ) → h < bound → m < 60 → s < 60 → SpellsTime bound (time_text h m s)
time_fits bound h m s p q r = (h, m, s, p, q, r, refl)

pub time_equal : (bound h m s h' m' s' : ℕ) → bound ≤ 100 → h < bound → m < 60 → s < 60 → h' < bound → m' < 60 → s' < 60
    → time_text h m s ≡ time_text h' m' s' → (h ≡ h') × (m ≡ m') × (s ≡ s')
time_equal bound h m s h' m' s' most p q r p' q' r' e =
    let fronts : length (digits 2 h ++ digits 2 m) ≡ length (digits 2 h' ++ digits 2 m') =
    time_front_width h m ∙ sym (time_front_width h' m') in
    let last = digits_after 2 s s' (digits 2 h ++ digits 2 m) (digits 2 h' ++ digits 2 m') fronts (omega arith) (omega arith) e in
    let rest =
    digits_after 2 m m' (digits 2 h) (digits 2 h') (number_width 2 h ∙ sym (number_width 2 h')) (omega arith) (omega arith)
    last.0 in
    (number_equal 2 h h' (omega arith) (omega arith) rest.0, rest.1, last.1)
