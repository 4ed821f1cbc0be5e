-- The day and the time that a cell spells are those of the numbers in its parts.
use Rattle.std.proofs.Common.{◌≡◌, ℕ, ◌<◌, ◌≤◌, List, take, drop, ap, ◌∙◌, arith, pos}
use Rattle.std.proofs.lemmas.Int.{ints}
use Rattle.jiff.specs.Words.{IsDate}
use Rattle.cwr_fields.specs.Format.Bytes.{digits, number_of}
use Rattle.cwr_fields.specs.Format.Cells.{SpellsDay, SpellsTime}
use Rattle.cwr_fields.specs.Format.DateLaws.{days_in_month_most}
use Rattle.cwr_fields.proofs.lemmas.Digits.{number_of-digits}

-- the parts of eight digits
abbrev pub year_part : List ℕ → ℕ
year_part cell = number_of (take 4 cell)

abbrev pub month_part : List ℕ → ℕ
month_part cell = number_of (take 2 (drop 4 cell))

abbrev pub day_part : List ℕ → ℕ
day_part cell = number_of (take 2 (drop 6 cell))

pub day_of_parts : (cell : List ℕ) → SpellsDay cell
    → (0 < year_part cell) × IsDate (pos (year_part cell)) (pos (month_part cell)) (pos (day_part cell))
unfolding digits
day_of_parts cell s =
    let y : year_part cell ≡ s.0 = ap year_part s.5 ∙ number_of-digits 4 s.0 (omega (arith, ints)) in
    let m : month_part cell ≡ s.1 = ap month_part s.5 ∙ number_of-digits 2 s.1 (omega (arith, ints)) in
    let d : day_part cell ≡ s.2 =
    ap day_part s.5 ∙ number_of-digits 2 s.2 (omega (arith, ints, days_in_month_most (pos s.0) s.1)) in
    (rw (y) s.3, rw (y, m, d) s.4)

pub time_of_parts : (bound : ℕ) (cell : List ℕ) → bound ≤ 100 → SpellsTime bound cell
    → (number_of (take 2 cell) < bound) × (number_of (take 2 (drop 2 cell)) < 60) × (number_of (take 2 (drop 4 cell)) < 60)
unfolding digits
time_of_parts bound cell small s =
    let h : number_of (take 2 cell) ≡ s.0 =
    ap (λ (c : List ℕ). number_of (take 2 c)) s.6 ∙ number_of-digits 2 s.0 (omega arith) in
    let m : number_of (take 2 (drop 2 cell)) ≡ s.1 =
    ap (λ (c : List ℕ). number_of (take 2 (drop 2 c))) s.6 ∙ number_of-digits 2 s.1 (omega arith) in
    let t : number_of (take 2 (drop 4 cell)) ≡ s.2 =
    ap (λ (c : List ℕ). number_of (take 2 (drop 4 c))) s.6 ∙ number_of-digits 2 s.2 (omega arith) in
    (omega arith, omega arith, omega arith)
