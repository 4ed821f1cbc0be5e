-- A text that isn't read as a moment is none's.
use Rattle.std.proofs.Common.{◌≡◌, ◌∷◌, ◌++◌, ◌+◌, ◌-◌, ◌<◌, ℕ, List, ap, subst, sym, ◌∙◌, arith, length, length-append}
use Rattle.std.specs.Prelude.{take, drop}
use Rattle.std.proofs.Math.ListN.{get_or}
use Rattle.std.proofs.lemmas.List.{length-drop, take-append-drop, take_all}
use Rattle.std.proofs.Math.Seq.{drop-append-add, drop-cons, get_or-append_seam, take-append_seam}
use Rattle.cwr_fields.specs.declared.cell_types.CellType.TheVariants as types
use Rattle.cwr_fields.specs.Format.Cells.{Allows}
use Rattle.cwr_fields.specs.Format.DateLaws.{day_fits, day_text, day_width}
use Rattle.cwr_fields.specs.Format.TimeLaws.{time_fits, time_text, time_width}
use Rattle.cwr_moments.specs.declared.moments.Moment.{Moment}
use Rattle.cwr_moments.specs.Format.Moments.{moment_text}

abbrev day_of : Moment → List ℕ
day_of m = day_text m.date.year m.date.month m.date.day

abbrev time_of : Moment → List ℕ
time_of m = time_text m.time.hour m.time.minute m.time.second

day_long : (m : Moment) → length (day_of m) ≡ 8
day_long m = day_width m.date.year m.date.month m.date.day

-- that of a moment has fifteen bytes
pub is_long : (m : Moment) (text : List ℕ) → moment_text m ≡ text → length text ≡ 15
is_long m text e =
    let whole : length (moment_text m) ≡ length text = ap length e in
    let day : length (day_of m) ≡ 8 = day_long m in
    let time : length (time_of m) ≡ 6 = time_width m.time.hour m.time.minute m.time.second in
    let both : length (day_of m ++ 84 ∷ time_of m) ≡ length (day_of m) + length (84 ∷ time_of m) = length-append (day_of m) (84 ∷ time_of m) in
    let one : length (84 ∷ time_of m) ≡ length (time_of m) + 1 = omega arith in
    omega (arith, whole, day, time, both, one)

-- of which the ninth is T
pub is_marked : (m : Moment) (text : List ℕ) → moment_text m ≡ text → get_or text 8 0 ≡ 84
is_marked m text e =
    subst (λ (t : List ℕ). get_or t 8 0 ≡ 84) e
    (subst (λ (n : ℕ). get_or (moment_text m) n 0 ≡ 84) (day_long m) (get_or-append_seam (day_of m) 84 (time_of m) 0))

-- and those before it are a day's
pub has_day : (m : Moment) (text : List ℕ) → moment_text m ≡ text → (length (take 8 text) ≡ 8) × Allows types.Date (take 8 text)
has_day m text e =
    let front : day_of m ≡ take 8 text =
    sym (subst (λ (n : ℕ). take n (moment_text m) ≡ day_of m) (day_long m) (take-append_seam (day_of m) (84 ∷ time_of m)))
    ∙ ap (take 8) e in
    subst (λ (t : List ℕ). (length t ≡ 8) × Allows types.Date t) front
    (day_long m, day_fits m.date.year m.date.month m.date.day m.date.after_zero m.date.civil)

-- and those after it a time's
pub has_time : (m : Moment) (text : List ℕ) → moment_text m ≡ text → (length (drop 9 text) ≡ 6) × Allows types.Time (drop 9 text)
has_time m text e =
    let back : time_of m ≡ drop 9 text =
    sym (subst (λ (n : ℕ). drop (n + 1) (moment_text m) ≡ time_of m) (day_long m) (drop-append-add (day_of m) (84 ∷ time_of m) 1))
    ∙ ap (drop 9) e in
    subst (λ (t : List ℕ). (length t ≡ 6) × Allows types.Time t) back (
      time_width m.time.hour m.time.minute m.time.second,
      time_fits 24 m.time.hour m.time.minute m.time.second m.time.hours m.time.minutes m.time.seconds,
    )

-- a text of fifteen bytes whose ninth is T is its parts
pub parted : (text : List ℕ) → length text ≡ 15 → get_or text 8 0 ≡ 84
    → take 8 text ++ 84 ∷ take (length text - 9) (drop 9 text) ≡ text
parted text long mark =
    let nine : 8 < length text = omega (arith, long) in
    ap (λ (ys : List ℕ). take 8 text ++ 84 ∷ ys)
    (take_all (length text - 9) (drop 9 text) (omega (arith, long, length-drop 9 text)))
    ∙ ap (λ (x : ℕ). take 8 text ++ x ∷ drop 9 text) (sym mark)
    ∙ ap (λ (ys : List ℕ). take 8 text ++ ys) (sym (drop-cons text 8 0 nine)) ∙ take-append-drop 8 text
