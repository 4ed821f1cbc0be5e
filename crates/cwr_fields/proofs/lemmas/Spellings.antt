-- What a cell spells, and the digits in its parts.
use Rattle.std.proofs.Common.{◌≡◌, ℕ, zero, suc, ◌+◌, ◌-◌, ◌*◌, ◌/◌, ◌%◌, ◌^◌, ◌<◌, ◌≤◌, true, leb, List, [], ◌∷◌, ◌++◌, length}
use Rattle.std.proofs.Common.{take, drop, refl, sym, ap, ◌∙◌, subst, pow-suc, append_assoc, append-nil, add-zero, zero-add}
use Rattle.std.proofs.Common.{take_all, lit<, arith, pos}
use Rattle.std.specs.Prelude.{◌↔◌}
use Rattle.std.specs.List.{fold}
use Rattle.std.proofs.lemmas.List.{length-take-le, length-drop, take-append-drop, drop-drop}
use Rattle.std.proofs.lemmas.List.Folds.{list_all-append}
use Rattle.std.proofs.lemmas.Bool.{and_parts, and_from, leb-true, le-leb}
use Rattle.cwr_fields.specs.Format.Bytes.{digits, number_of, is_digit, are_digits}
use Rattle.jiff.specs.Words.{IsDate}
use Rattle.cwr_fields.specs.Format.Cells.{SpellsNumber, SpellsDay, SpellsTime, SpellsShare}
use Rattle.cwr_fields.proofs.lemmas.Digits.{number_of-digits}
use Rattle.cwr_fields.proofs.lemmas.NumbersInParts.{year_part, month_part, day_part, day_of_parts, time_of_parts}

-- a digit is 48 to 57
pub digit_bounds : (b : ℕ) → is_digit b ≡ true → (48 ≤ b) × (b ≤ 57)
digit_bounds b h = let p = and_parts (leb 48 b) (leb b 57) h in (leb-true 48 b p.0, leb-true b 57 p.1)

-- a number with one more digit after it
pub digits-after : (width n b : ℕ) → 48 ≤ b → b ≤ 57 → digits (suc width) (10 * n + (b - 48)) ≡ digits width n ++ b ∷ []
unfolding digits
digits-after width n b low high =
    let front : (10 * n + (b - 48)) / 10 ≡ n = omega arith in
    let last : 48 + (10 * n + (b - 48)) % 10 ≡ b = omega arith in
    ap (λ m. digits width m ++ (48 + (10 * n + (b - 48)) % 10) ∷ []) front ∙ ap (λ x. digits width n ++ x ∷ []) last

-- the number that digits write, read on from another
abbrev pub read_on : ℕ → List ℕ → ℕ
read_on n cell = fold (λ m b. 10 * m + (b - 48)) n cell

pub read_on-fits : (width n : ℕ) (cell : List ℕ) → n < 10 ^ width → are_digits cell ≡ true
    → read_on n cell < 10 ^ (width + length cell)
read_on-fits width n [] small h = rw add-zero small
read_on-fits width n (b ∷ cell) small h =
    let p = and_parts (is_digit b) (are_digits cell) h in
    let d = digit_bounds b p.0 in
    let fits : 10 * n + (b - 48) < 10 ^ suc width = omega (arith, pow-suc 10 width) in
    let rest = read_on-fits (suc width) (10 * n + (b - 48)) cell fits p.1 in
    let same : suc width + length cell ≡ width + suc (length cell) = omega arith in
    subst (λ (w : ℕ). read_on (10 * n + (b - 48)) cell < 10 ^ w) same rest

pub digits-read_on : (width n : ℕ) (cell : List ℕ) → are_digits cell ≡ true
    → digits (width + length cell) (read_on n cell) ≡ digits width n ++ cell
digits-read_on width n [] h = ap (λ w. digits w n) (add-zero width) ∙ sym (append-nil (digits width n))
digits-read_on width n (b ∷ cell) h =
    let p = and_parts (is_digit b) (are_digits cell) h in
    let d = digit_bounds b p.0 in
    let same : width + suc (length cell) ≡ suc width + length cell = omega arith in
    ap (λ w. digits w (read_on (10 * n + (b - 48)) cell)) same
    ∙ digits-read_on (suc width) (10 * n + (b - 48)) cell p.1
    ∙ ap (λ l. l ++ cell) (digits-after width n b d.0 d.1)
    ∙ append_assoc (digits width n) (b ∷ []) cell

-- digits are those of the number that they write
pub digits-number_of : (cell : List ℕ) → are_digits cell ≡ true → digits (length cell) (number_of cell) ≡ cell
unfolding digits
digits-number_of cell h = ap (λ w. digits w (number_of cell)) (sym (zero-add (length cell))) ∙ digits-read_on 0 0 cell h

pub number_of-fits : (cell : List ℕ) → are_digits cell ≡ true → number_of cell < 10 ^ length cell
number_of-fits cell h =
    let small : 0 < 10 ^ 0 = lit< tt in
    subst (λ (w : ℕ). number_of cell < 10 ^ w) (zero-add (length cell)) (read_on-fits 0 0 cell small h)

pub are_digits-append : (xs ys : List ℕ) → are_digits xs ≡ true → are_digits ys ≡ true → are_digits (xs ++ ys) ≡ true
are_digits-append xs ys h k = list_all-append is_digit xs ys ∙ and_from (are_digits xs) (are_digits ys) h k

digit_here : (n : ℕ) → is_digit (48 + n % 10) ≡ true
digit_here n =
    and_from (leb 48 (48 + n % 10)) (leb (48 + n % 10) 57) (le-leb 48 (48 + n % 10) (omega arith))
    (le-leb (48 + n % 10) 57 (omega arith))

pub are_digits-digits : (width n : ℕ) → are_digits (digits width n) ≡ true
unfolding digits
are_digits-digits zero n = refl
are_digits-digits (suc width) n =
    are_digits-append (digits width (n / 10)) ((48 + n % 10) ∷ []) (are_digits-digits width (n / 10))
    (and_from (is_digit (48 + n % 10)) true (digit_here n) refl)

-- a number is spelled by digits, at least one
pub number_spelled : (cell : List ℕ) → SpellsNumber cell ↔ ((0 < length cell) × (are_digits cell ≡ true))
number_spelled cell = (
  λ s. (s.1, subst (λ (c : List ℕ). are_digits c ≡ true) (sym s.3) (are_digits-digits (length cell) s.0)),
  λ d. (number_of cell, d.0, number_of-fits cell d.1, sym (digits-number_of cell d.1)),
)

-- the bytes of a cell from one place to another
abbrev pub bytes_at : ℕ → ℕ → List ℕ → List ℕ
bytes_at start width cell = take width (drop start cell)

pub are_digits-split : (n : ℕ) (cell : List ℕ) → are_digits cell ≡ true
    → (are_digits (take n cell) ≡ true) × (are_digits (drop n cell) ≡ true)
are_digits-split n cell h =
    and_parts (are_digits (take n cell)) (are_digits (drop n cell))
    (sym (list_all-append is_digit (take n cell) (drop n cell)) ∙ ap are_digits (take-append-drop n cell) ∙ h)

pub are_digits-part : (start width : ℕ) (cell : List ℕ) → are_digits cell ≡ true → are_digits (bytes_at start width cell) ≡ true
are_digits-part start width cell h = (are_digits-split width (drop start cell) (are_digits-split start cell h).1).0

-- a part of digits is the digits of the number that it writes
pub part_spelled : (start width : ℕ) (cell : List ℕ) → start + width ≤ length cell → are_digits cell ≡ true
    → (digits width (number_of (bytes_at start width cell)) ≡ bytes_at start width cell)
    × (number_of (bytes_at start width cell) < 10 ^ width)
part_spelled start width cell room h =
    let wide : length (bytes_at start width cell) ≡ width =
    length-take-le width (drop start cell) (omega (arith, length-drop start cell)) in
    let there : are_digits (bytes_at start width cell) ≡ true = are_digits-part start width cell h in (
      subst (λ (w : ℕ). digits w (number_of (bytes_at start width cell)) ≡ bytes_at start width cell) wide
          (digits-number_of (bytes_at start width cell) there),
      subst (λ (w : ℕ). number_of (bytes_at start width cell) < 10 ^ w) wide (number_of-fits (bytes_at start width cell) there),
    )

-- three parts that make up a cell
pub parts_joined : (a b c : ℕ) (cell : List ℕ) → length cell ≡ a + b + c
    → take a cell ++ bytes_at a b cell ++ bytes_at (a + b) c cell ≡ cell
parts_joined a b c cell wide =
    let last : bytes_at (a + b) c cell ≡ drop (a + b) cell =
    take_all c (drop (a + b) cell) (omega (arith, length-drop (a + b) cell)) in
    let back : drop b (drop a cell) ≡ drop (a + b) cell = drop-drop b a cell in
    append_assoc (take a cell) (bytes_at a b cell) (bytes_at (a + b) c cell)
    ∙ ap (λ l. take a cell ++ (bytes_at a b cell ++ l)) (last ∙ sym back)
    ∙ ap (λ l. take a cell ++ l) (take-append-drop b (drop a cell))
    ∙ take-append-drop a cell

pub same_parts : (x x' y y' z z' cell : List ℕ) → x' ≡ x → y' ≡ y → z' ≡ z → x ++ y ++ z ≡ cell → cell ≡ x' ++ y' ++ z'
same_parts x x' y y' z z' cell p q r h = sym (rw (p, q, r) h)

-- a day is spelled by eight digits, whose parts are a date
pub day_spelled : (cell : List ℕ) → length cell ≡ 8
    → SpellsDay cell ↔ ((are_digits cell ≡ true) × (0 < year_part cell)
    × IsDate (pos (year_part cell)) (pos (month_part cell)) (pos (day_part cell)))
day_spelled cell wide = (
  λ s. let parts = day_of_parts cell s in (
    subst (λ (c : List ℕ). are_digits c ≡ true) (sym s.5)
        (are_digits-append (digits 4 s.0 ++ digits 2 s.1) (digits 2 s.2)
        (are_digits-append (digits 4 s.0) (digits 2 s.1) (are_digits-digits 4 s.0) (are_digits-digits 2 s.1))
        (are_digits-digits 2 s.2)),
    parts.0,
    parts.1,
  ),
  λ d. (
    year_part cell,
    month_part cell,
    day_part cell,
    d.1,
    d.2,
    same_parts _ _ _ _ _ _ cell (part_spelled 0 4 cell (omega arith) d.0).0 (part_spelled 4 2 cell (omega arith) d.0).0
        (part_spelled 6 2 cell (omega arith) d.0).0 (parts_joined 4 2 2 cell wide),
  ),
)

-- a time is spelled by six digits, whose parts are below their bounds
pub time_spelled : (bound : ℕ) (cell : List ℕ) → bound ≤ 100 → length cell ≡ 6
    → SpellsTime bound cell ↔ ((are_digits cell ≡ true) × (number_of (bytes_at 0 2 cell) < bound)
    × (number_of (bytes_at 2 2 cell) < 60) × (number_of (bytes_at 4 2 cell) < 60))
time_spelled bound cell small wide = (
  λ s. let parts = time_of_parts bound cell small s in (
    subst (λ (c : List ℕ). are_digits c ≡ true) (sym s.6)
        (are_digits-append (digits 2 s.0 ++ digits 2 s.1) (digits 2 s.2)
        (are_digits-append (digits 2 s.0) (digits 2 s.1) (are_digits-digits 2 s.0) (are_digits-digits 2 s.1))
        (are_digits-digits 2 s.2)),
    parts.0,
    parts.1,
    parts.2,
  ),
  λ d. (
    number_of (bytes_at 0 2 cell),
    number_of (bytes_at 2 2 cell),
    number_of (bytes_at 4 2 cell),
    d.1,
    d.2,
    d.3,
    same_parts _ _ _ _ _ _ cell (part_spelled 0 2 cell (omega arith) d.0).0 (part_spelled 2 2 cell (omega arith) d.0).0
        (part_spelled 4 2 cell (omega arith) d.0).0 (parts_joined 2 2 2 cell wide),
  ),
)

-- a share is spelled by five digits, of which the whole is the most
pub share_spelled : (cell : List ℕ) → length cell ≡ 5 → SpellsShare cell ↔ ((are_digits cell ≡ true) × (number_of cell ≤ 10000))
share_spelled cell wide = (
  λ s. (
    subst (λ (c : List ℕ). are_digits c ≡ true) (sym s.2) (are_digits-digits 5 s.0),
    let n : number_of cell ≡ s.0 = ap number_of s.2 ∙ number_of-digits 5 s.0 (omega arith) in omega arith,
  ),
  λ d. (number_of cell, d.1, sym (subst (λ (w : ℕ). digits w (number_of cell) ≡ cell) wide (digits-number_of cell d.0))),
)
