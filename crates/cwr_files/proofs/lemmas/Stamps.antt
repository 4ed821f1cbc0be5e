-- A text as one that is created at another moment, as it grows.
use Rattle.std.proofs.Common.{◌≡◌, ℕ, ◌+◌, ◌-◌, ◌*◌, ◌/◌, ◌%◌, ◌^◌, ◌<◌, ◌≤◌, Bool, true, false, List, [], ◌++◌, length, Option, Some, None, refl, sym, ap, ap₂, subst, ◌∙◌, arith, length-append, take, drop}
use Rattle.std.proofs.Math.Seq.{take-add}
use Rattle.std.proofs.lemmas.Bool.{leb-true, leb-false, ltb-true, ltb-false}
use Rattle.std.proofs.lemmas.List.{append-nil, append_assoc, length-take, take-append-le, drop-append-le, drop_all, take-take, take_all}
use Rattle.std.proofs.lemmas.Slice.Eq.{bytes_eq-Decides}
use Rattle.std.specs.Io.KnownBytes.{Appends}
use Rattle.std.specs.Str.{bytes_eq}
use Rattle.std.specs.Prelude.{min, nat_le, nat_lt, if◌then◌else◌}
use Rattle.cwr_fields.specs.declared.dates.CivilDate.{CivilDate}
use Rattle.cwr_fields.specs.Format.DateLaws.{day_text}
use Rattle.cwr_fields.specs.Format.TimeLaws.{time_text}
use Rattle.cwr_moments.specs.declared.moments.Moment.{Moment}
use Rattle.cwr_moments.specs.Format.Moments.{moment_cells, second_of_day}
use Rattle.cwr_files.specs.Format.Stamps.{cells_at, created_by, later_cells, stamped, with_created}
use Rattle.cwr_files.specs.Format.Written.{known_as}

-- one that ends before the cells is as it was
short_created : (cells text : List ℕ) → length text ≤ 64 → with_created cells text ≡ text
short_created cells text short =
    let none : length text - 64 ≡ 0 = omega (arith, short) in
    ap₂ (λ (xs ys : List ℕ). xs ++ ys)
    (ap₂ (λ (xs ys : List ℕ). xs ++ ys) (take_all 64 text short) (ap (λ (n : ℕ). take n cells) none) ∙ append-nil text)
    (drop_all 78 text (omega (arith, short)))
    ∙ append-nil text

pub empty_created : (cells : Option (List ℕ)) → created_by cells [] ≡ []
empty_created None = refl
empty_created (Some cells) = short_created cells [] (omega arith)

-- behind the cells
module _ (cells given text : List ℕ) (n : ℕ) (wide : length cells ≡ 14) where
  abbrev long : List ℕ
  long = given ++ take n text

  behind : 78 ≤ length given → with_created cells long ≡ with_created cells given ++ take n text
  behind enough =
      let more = take n text in
      let few : 64 ≤ length given = omega (arith, enough) in
      ap₂ (λ (xs ys : List ℕ). xs ++ ys)
      (ap₂ (λ (xs ys : List ℕ). xs ++ ys) (take-append-le 64 given more few)
      (take_all (length long - 64) cells (omega (arith, wide, enough, length-append given more))
      ∙ sym (take_all (length given - 64) cells (omega (arith, wide, enough)))))
      (drop-append-le 78 given more enough)
      ∙ sym (append_assoc (take 64 given ++ take (length given - 64) cells) (drop 78 given) more)

  -- before them
  before : length given + n ≤ 64 → with_created cells long ≡ with_created cells given ++ take n text
  before few =
      short_created cells long (omega (arith, few, length-append given (take n text), length-take n text))
      ∙ ap (λ (xs : List ℕ). xs ++ take n text) (sym (short_created cells given (omega (arith, few))))

  -- in them
  among : 64 ≤ length given → length given + n ≤ 78 → n ≤ length text
      → with_created cells long ≡ with_created cells given ++ take n (drop (length given - 64) cells)
  among some few has =
      let more = take n text in
      let wider : length long ≡ length given + n = omega (arith, length-append given more, length-take n text, has) in
      let on : length long - 64 ≡ (length given - 64) + n = omega (arith, wider, some) in
      let front = take 64 given in
      let first = take (length given - 64) cells in
      let next = take n (drop (length given - 64) cells) in
      ap₂ (λ (xs ys : List ℕ). xs ++ ys)
      (ap₂ (λ (xs ys : List ℕ). xs ++ ys) (take-append-le 64 given more some)
      (ap (λ (m : ℕ). take m cells) on ∙ take-add (length given - 64) n cells))
      (drop_all 78 long (omega (arith, wider, few)))
      ∙ append-nil (front ++ (first ++ next)) ∙ sym (append_assoc front first next)
      ∙ ap (λ (xs : List ℕ). xs ++ next)
      (sym (append-nil (front ++ first)) ∙ ap (λ (ys : List ℕ). (front ++ first) ++ ys) (sym (drop_all 78 given (omega (arith, few)))))

-- the bytes that are written in the place of more of the text stand in it then
pub created_grows : (cells given text piece : List ℕ) (at n : ℕ) → length cells ≡ 14 → at ≡ min (length given) (2 ^ 64 - 1)
    → stamped cells at text piece → n ≤ length piece
    → with_created cells (given ++ take n text) ≡ with_created cells given ++ take n piece
created_grows cells given text piece at n wide counted is few = by (nat_le 78 at) (nat_lt at 64) refl refl is
  where
    whole : take n text ≡ take n piece → with_created cells (given ++ take n text) ≡ with_created cells given ++ take n text
        → with_created cells (given ++ take n text) ≡ with_created cells given ++ take n piece
    whole same e = e ∙ ap (λ (xs : List ℕ). with_created cells given ++ xs) same

    by : (b c : Bool) → nat_le 78 at ≡ b → nat_lt at 64 ≡ c
        → piece ≡ (if b then text else if c then take (min (length text) (64 - at)) text
        else take (min (length text) (14 - (at - 64))) (drop (at - 64) cells))
        → with_created cells (given ++ take n text) ≡ with_created cells given ++ take n piece
    by true c t u p =
        let enough : 78 ≤ length given = omega (arith, leb-true 78 at t, counted) in
        whole (ap (take n) (sym p)) (behind cells given text n wide enough)
    by false true t u p =
        let less = ltb-true at 64 u in
        let m = min (length text) (64 - at) in
        let most : n ≤ min m (length text) = omega (arith, few, ap length p, length-take m text) in
        whole (sym (take-take n m text (omega (arith, most))) ∙ ap (take n) (sym p))
        (before cells given text n wide (omega (arith, less, most, counted)))
    by false false t u p =
        let less = leb-false 78 at t in
        let more = ltb-false at 64 u in
        let m = min (length text) (14 - (at - 64)) in
        let most : n ≤ m = omega (arith, few, ap length p, length-take m (drop (at - 64) cells)) in
        let same : at ≡ length given = omega (arith, counted, less) in
        among cells given text n wide (omega (arith, same, more)) (omega (arith, same, most, more, less)) (omega (arith, most))
        ∙ ap (λ (xs : List ℕ). with_created cells given ++ xs)
        (ap (λ (k : ℕ). take n (drop (k - 64) cells)) (sym same) ∙ sym (take-take n m (drop (at - 64) cells) most) ∙ ap (take n) (sym p))

-- the text is known that was written before and now
pub written_on : (cells : Option (List ℕ)) (given next text piece : List ℕ) (n : ℕ) (held now : Option (List ℕ))
    → Appends held now (take n piece) → created_by cells (given ++ take n text) ≡ created_by cells given ++ take n piece
    → next ≡ given ++ take n text
    → Appends (known_as given (created_by cells given) held) (known_as next (created_by cells next) now) (take n text)
written_on cells given next text piece n None now h grows is = tt
written_on cells given next text piece n (Some was) None h grows is = absurd h
written_on cells given next text piece n (Some was) (Some new) h grows is = by (bytes_eq was (created_by cells given)) refl
  where
    by : (b : Bool) → bytes_eq was (created_by cells given) ≡ b
        → Appends (if b then Some given else None) (known_as next (created_by cells next) (Some new)) (take n text)
    by false t = tt
    by true t =
        let same = h ∙ ap (λ (xs : List ℕ). xs ++ take n piece) ((bytes_eq-Decides was (created_by cells given)).0 t) ∙ sym grows
        ∙ ap (created_by cells) (sym is) in
        subst (λ (b : Bool). Appends (Some given) (if b then Some next else None) (take n text))
        (sym ((bytes_eq-Decides new (created_by cells next)).1 same)) is

-- nothing was written so far
pub known_empty : (cells : Option (List ℕ)) (given : List ℕ) (held : Option (List ℕ)) → given ≡ [] → held ≡ Some []
    → known_as given (created_by cells given) held ≡ Some []
known_empty cells given held none empty =
    subst (λ (xs : List ℕ). known_as xs (created_by cells xs) held ≡ Some []) (sym none)
    (subst (λ (o : Option (List ℕ)). known_as [] (created_by cells []) o ≡ Some []) (sym empty)
    (subst (λ (xs : List ℕ). known_as [] xs (Some []) ≡ Some []) (sym (empty_created cells)) refl))

-- ---- moments

-- the parts of a second of a day
parts_of_second : (h m s : ℕ) → m < 60 → s < 60 → ((h * 3600 + m * 60 + s) / 3600 ≡ h) × ((h * 3600 + m * 60 + s) / 60 % 60 ≡ m)
    × ((h * 3600 + m * 60 + s) % 60 ≡ s)
parts_of_second h m s few less = (omega (arith, few, less), omega (arith, few, less), omega (arith, few, less))

cells_of_second : (m : Moment) → cells_at m (second_of_day m) ≡ moment_cells m
cells_of_second m =
    let is = parts_of_second m.time.hour m.time.minute m.time.second m.time.minutes m.time.seconds in
    let second = second_of_day m in
    let day = day_text m.date.year m.date.month m.date.day in
    ap (λ (h : ℕ). day ++ time_text h (second / 60 % 60) (second % 60)) is.0
    ∙ ap (λ (n : ℕ). day ++ time_text m.time.hour n (second % 60)) is.1 ∙ ap (λ (s : ℕ). day ++ time_text m.time.hour m.time.minute s) is.2

-- of a later moment of that day
pub later_is : (m n : Moment) (seconds : ℕ) → n.date ≡ m.date → second_of_day n ≡ second_of_day m + seconds
    → moment_cells n ≡ later_cells m seconds
later_is m n seconds day second =
    sym (cells_of_second n) ∙ ap (cells_at n) second
    ∙ ap (λ (d : CivilDate). day_text d.year d.month d.day
    ++ time_text ((second_of_day m + seconds) / 3600) ((second_of_day m + seconds) / 60 % 60) ((second_of_day m + seconds) % 60)) day
