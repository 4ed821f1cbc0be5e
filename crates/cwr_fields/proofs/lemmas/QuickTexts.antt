-- Texts that quick tests find to be cells of their types.
use Rattle.std.proofs.Common.{◌≡◌, ℕ, ◌≤◌, ◌⊎◌, inl, inr, Bool, true, false, ◌&&◌, ◌||◌, eqb, List, [], ◌∷◌}
use Rattle.std.proofs.Common.{length, get_or, replicate, take, drop, refl, sym, ap, ap₂, subst, ◌∙◌, arith, lit≤, lit<, true≢false}
use Rattle.std.proofs.Common.{◌+◌, ◌-◌, ◌*◌, ◌<◌, cond, ℤ, pos}
use Rattle.std.proofs.lemmas.Int.{ints}
use Rattle.std.proofs.lemmas.List.{take_all}
use Rattle.jiff.specs.Words.{days_in_month}
use Rattle.std.proofs.lemmas.Bool.{and_parts, eqb-true, leb-true}
use Rattle.cwr_fields.specs.declared.cell_types.CellType.TheVariants as types
use Rattle.cwr_fields.specs.Format.Bytes.{is_digit, are_digits, is_spaces, number_of, digits}
use Rattle.cwr_fields.specs.Format.Cells.{Allows, SpellsDay, SpellsTime}
use Rattle.cwr_fields.proofs.lemmas.DigitsWritten.{share_or, one_byte}
use Rattle.cwr_fields.proofs.lemmas.Blanks.{blank}
use Rattle.cwr_fields.proofs.lemmas.Spellings.{day_spelled, time_spelled}

-- ---- shares

most : (b : ℕ) → is_digit b ≡ true → b ≤ 57
most b h = leb-true b 57 (and_parts _ _ h).1

small_share : (b c d e : ℕ) → is_digit b ≡ true → is_digit c ≡ true → is_digit d ≡ true → is_digit e ≡ true
    → Allows types.Share (48 ∷ b ∷ c ∷ d ∷ e ∷ [])
small_share b c d e hb hc hd he =
    let all : are_digits (48 ∷ b ∷ c ∷ d ∷ e ∷ []) ≡ true = rw hb (rw hc (rw hd (rw he refl))) in
    let below : number_of (48 ∷ b ∷ c ∷ d ∷ e ∷ []) ≤ 10000 = omega (arith, most b hb, most c hc, most d hd, most e he) in
    (share_or (48 ∷ b ∷ c ∷ d ∷ e ∷ []) refl refl).1 (all, below)

-- a zero and four digits are less than the whole
small_text : (rest : List ℕ) → length rest ≡ 4 → are_digits rest ≡ true → Allows types.Share (48 ∷ rest)
small_text [] wide h = absurd (omega (arith, wide))
small_text (b ∷ []) wide h = absurd (omega (arith, wide))
small_text (b ∷ c ∷ []) wide h = absurd (omega (arith, wide))
small_text (b ∷ c ∷ d ∷ []) wide h = absurd (omega (arith, wide))
small_text (b ∷ c ∷ d ∷ e ∷ []) wide h =
    let p = and_parts _ _ h in
    let q = and_parts _ _ p.1 in
    let r = and_parts _ _ q.1 in
    let s = and_parts _ _ r.1 in
    small_share b c d e p.0 q.0 r.0 s.0
small_text (b ∷ c ∷ d ∷ e ∷ f ∷ rest) wide h = absurd (omega (arith, wide))

-- the bytes after the first one
after_first : (a : ℕ) (rest : List ℕ) → take (length (a ∷ rest) - 1) (drop 1 (a ∷ rest)) ≡ rest
after_first a rest = take_all (length (a ∷ rest) - 1) rest (omega arith)

-- a zero and four digits are less than the whole
pub small_cell : (cell : List ℕ) → 1 ≤ length cell → get_or cell 0 0 ≡ 48 → length (take (length cell - 1) (drop 1 cell)) ≡ 4
    → are_digits (take (length cell - 1) (drop 1 cell)) ≡ true → Allows types.Share cell
small_cell [] some first wide digits = absurd (omega (arith, some))
small_cell (a ∷ rest) some first wide digits =
    let same : a ∷ rest ≡ 48 ∷ rest = ap (λ (n : ℕ). n ∷ rest) first in
    let back = after_first a rest in
    subst (λ (text : List ℕ). Allows types.Share text) (sym same)
    (small_text rest (rw back at wide) (rw back at digits))

-- a cell is its first byte and those after it
pub first_and_rest : (cell rest : List ℕ) (a : ℕ) → 1 ≤ length cell → get_or cell 0 0 ≡ a
    → take (length cell - 1) (drop 1 cell) ≡ rest → cell ≡ a ∷ rest
first_and_rest [] rest a some first same = absurd (omega (arith, some))
first_and_rest (b ∷ bs) rest a some first same =
    ap₂ (λ (n : ℕ) (ns : List ℕ). n ∷ ns) first (sym (after_first b bs) ∙ same)

pub whole_digits : 49 ∷ 48 ∷ 48 ∷ 48 ∷ 48 ∷ [] ≡ digits 5 10000
unfolding digits
whole_digits = refl

one_of : {P : Type 0} (a b c : Bool) → ((a || b) || c) ≡ true → (a ≡ true → P) → (b ≡ true → P) → (c ≡ true → P) → P
one_of true b c h f g k = f refl
one_of false true c h f g k = g refl
one_of false false true h f g k = k refl
one_of false false false h f g k = absurd (true≢false (sym h))

-- ---- flags

pub flag_text : (cell : List ℕ) → length cell ≡ 1
    → (((eqb (get_or cell 0 0) 32 || eqb (get_or cell 0 0) 78) || eqb (get_or cell 0 0) 85) || eqb (get_or cell 0 0) 89) ≡ true
    → Allows types.Flag cell
flag_text cell wide h =
    one_of (eqb (get_or cell 0 0) 32 || eqb (get_or cell 0 0) 78) (eqb (get_or cell 0 0) 85) (eqb (get_or cell 0 0) 89) h
    (λ k. one_of false (eqb (get_or cell 0 0) 32) (eqb (get_or cell 0 0) 78) k (λ e. absurd (true≢false (sym e)))
    (λ e. (3, (lit< tt, one_byte cell 32 wide (eqb-true _ 32 e))))
    (λ e. (1, (lit< tt, one_byte cell 78 wide (eqb-true _ 78 e)))))
    (λ e. (2, (lit< tt, one_byte cell 85 wide (eqb-true _ 85 e))))
    (λ e. (0, (lit< tt, one_byte cell 89 wide (eqb-true _ 89 e))))

-- ---- cells that may be blank

pub blank_holds : {P : Type 0} (n : ℕ) (cell : List ℕ) → length cell ≡ n → is_spaces cell ≡ true → (cell ≡ replicate n 32) ⊎ P
blank_holds n cell wide h = inl (blank n cell wide h)

-- ---- days

-- a text of eight bytes is those bytes
eight_bytes : (cell : List ℕ) → length cell ≡ 8
    → cell ≡ get_or cell 0 0 ∷ get_or cell 1 0 ∷ get_or cell 2 0 ∷ get_or cell 3 0 ∷ get_or cell 4 0 ∷ get_or cell 5 0
    ∷ get_or cell 6 0 ∷ get_or cell 7 0 ∷ []
eight_bytes [] h = absurd (omega (arith, h))
eight_bytes (a ∷ []) h = absurd (omega (arith, h))
eight_bytes (a ∷ b ∷ []) h = absurd (omega (arith, h))
eight_bytes (a ∷ b ∷ c ∷ []) h = absurd (omega (arith, h))
eight_bytes (a ∷ b ∷ c ∷ d ∷ []) h = absurd (omega (arith, h))
eight_bytes (a ∷ b ∷ c ∷ d ∷ e ∷ []) h = absurd (omega (arith, h))
eight_bytes (a ∷ b ∷ c ∷ d ∷ e ∷ f ∷ []) h = absurd (omega (arith, h))
eight_bytes (a ∷ b ∷ c ∷ d ∷ e ∷ f ∷ g ∷ []) h = absurd (omega (arith, h))
eight_bytes (a ∷ b ∷ c ∷ d ∷ e ∷ f ∷ g ∷ k ∷ []) h = refl
eight_bytes (a ∷ b ∷ c ∷ d ∷ e ∷ f ∷ g ∷ k ∷ m ∷ rest) h = absurd (omega (arith, h))

abbrev pub are_four : ℕ → ℕ → ℕ → ℕ → Bool
are_four a b c d = ((is_digit a && is_digit b) && is_digit c) && is_digit d

four_digits : (a b c d : ℕ) → are_four a b c d ≡ true
    → (is_digit a ≡ true) × (is_digit b ≡ true) × (is_digit c ≡ true) × (is_digit d ≡ true)
four_digits a b c d h =
    let r = and_parts _ _ h in
    let q = and_parts _ _ r.0 in
    let p = and_parts _ _ q.0 in
    (p.0, p.1, q.1, r.1)

month_at_least : (b : Bool) (c d : ℕ) → 28 ≤ c → 28 ≤ d → 28 ≤ cond b c d
month_at_least true c d p q = p
month_at_least false c d p q = q

-- each month has twenty-eight days
days_in_month_least : (y : ℤ) (m : ℕ) → 28 ≤ days_in_month y m
days_in_month_least y m =
    month_at_least _ _ _ (month_at_least _ 29 28 (omega arith) (omega arith)) (month_at_least _ 30 31 (omega arith) (omega arith))

early_bytes : (a b c d e f g k : ℕ) → are_four a b c d ≡ true → are_four e f g k ≡ true → 49 ≤ a
    → (is_digit f ≡ true → (0 < number_of (e ∷ f ∷ [])) × (number_of (e ∷ f ∷ []) ≤ 12))
    → (is_digit k ≡ true → (0 < number_of (g ∷ k ∷ [])) × (number_of (g ∷ k ∷ []) ≤ 28))
    → SpellsDay (a ∷ b ∷ c ∷ d ∷ e ∷ f ∷ g ∷ k ∷ [])
early_bytes a b c d e f g k front back year of_month of_day =
    let p = four_digits a b c d front in
    let q = four_digits e f g k back in
    let month = of_month q.1 in
    let day = of_day q.3 in
    let all : are_digits (a ∷ b ∷ c ∷ d ∷ e ∷ f ∷ g ∷ k ∷ []) ≡ true =
    rw p.0 (rw p.1 (rw p.2 (rw p.3 (rw q.0 (rw q.1 (rw q.2 (rw q.3 refl))))))) in
    let least = days_in_month_least (pos (number_of (a ∷ b ∷ c ∷ d ∷ []))) (number_of (e ∷ f ∷ [])) in
    (day_spelled (a ∷ b ∷ c ∷ d ∷ e ∷ f ∷ g ∷ k ∷ []) refl).1 (
      all,
      omega (arith, year),
      (
        (omega (arith, ints), omega (arith, ints, most a p.0, most b p.1, most c p.2, most d p.3)),
        (omega (arith, ints, month.0), omega (arith, ints, month.1)),
        (omega (arith, ints, day.0), omega (arith, ints, day.1, least)),
      ),
    )

-- eight digits are a day where they name one of the first twenty-eight days of a month, in a year from 1000 on
pub early_day : (cell : List ℕ) → length cell ≡ 8
    → are_four (get_or cell 0 0) (get_or cell 1 0) (get_or cell 2 0) (get_or cell 3 0) ≡ true
    → are_four (get_or cell 4 0) (get_or cell 5 0) (get_or cell 6 0) (get_or cell 7 0) ≡ true → 49 ≤ get_or cell 0 0
    → (is_digit (get_or cell 5 0) ≡ true
    → (0 < number_of (get_or cell 4 0 ∷ get_or cell 5 0 ∷ [])) × (number_of (get_or cell 4 0 ∷ get_or cell 5 0 ∷ []) ≤ 12))
    → (is_digit (get_or cell 7 0) ≡ true
    → (0 < number_of (get_or cell 6 0 ∷ get_or cell 7 0 ∷ [])) × (number_of (get_or cell 6 0 ∷ get_or cell 7 0 ∷ []) ≤ 28))
    → SpellsDay cell
early_day cell wide front back year month day =
    subst SpellsDay (sym (eight_bytes cell wide)) (early_bytes _ _ _ _ _ _ _ _ front back year month day)

-- ---- times

-- a text of six bytes is those bytes
six_bytes : (cell : List ℕ) → length cell ≡ 6
    → cell ≡ get_or cell 0 0 ∷ get_or cell 1 0 ∷ get_or cell 2 0 ∷ get_or cell 3 0 ∷ get_or cell 4 0 ∷ get_or cell 5 0 ∷ []
six_bytes [] h = absurd (omega (arith, h))
six_bytes (a ∷ []) h = absurd (omega (arith, h))
six_bytes (a ∷ b ∷ []) h = absurd (omega (arith, h))
six_bytes (a ∷ b ∷ c ∷ []) h = absurd (omega (arith, h))
six_bytes (a ∷ b ∷ c ∷ d ∷ []) h = absurd (omega (arith, h))
six_bytes (a ∷ b ∷ c ∷ d ∷ e ∷ []) h = absurd (omega (arith, h))
six_bytes (a ∷ b ∷ c ∷ d ∷ e ∷ f ∷ []) h = refl
six_bytes (a ∷ b ∷ c ∷ d ∷ e ∷ f ∷ g ∷ rest) h = absurd (omega (arith, h))

abbrev pub are_six : ℕ → ℕ → ℕ → ℕ → ℕ → ℕ → Bool
are_six a b c d e f = ((((is_digit a && is_digit b) && is_digit c) && is_digit d) && is_digit e) && is_digit f

time_bytes : (bound a b c d e f : ℕ) → bound ≤ 100 → are_six a b c d e f ≡ true → number_of (a ∷ b ∷ []) < bound → c ≤ 53
    → e ≤ 53 → SpellsTime bound (a ∷ b ∷ c ∷ d ∷ e ∷ f ∷ [])
time_bytes bound a b c d e f small digits hours minutes seconds =
    let six = and_parts _ _ digits in
    let five = and_parts _ _ six.0 in
    let p = four_digits a b c d five.0 in
    let all : are_digits (a ∷ b ∷ c ∷ d ∷ e ∷ f ∷ []) ≡ true =
    rw p.0 (rw p.1 (rw p.2 (rw p.3 (rw five.1 (rw six.1 refl))))) in
    (time_spelled bound (a ∷ b ∷ c ∷ d ∷ e ∷ f ∷ []) small refl).1 (
      all,
      hours,
      omega (arith, minutes, most d p.3),
      omega (arith, seconds, most f six.1),
    )

-- six digits are a time where they name hours below the bound, and minutes and seconds that begin with at most five
pub time_text : (bound : ℕ) (cell : List ℕ) → bound ≤ 100 → length cell ≡ 6
    → are_six (get_or cell 0 0) (get_or cell 1 0) (get_or cell 2 0) (get_or cell 3 0) (get_or cell 4 0) (get_or cell 5 0) ≡ true
    → number_of (get_or cell 0 0 ∷ get_or cell 1 0 ∷ []) < bound → get_or cell 2 0 ≤ 53 → get_or cell 4 0 ≤ 53
    → SpellsTime bound cell
time_text bound cell small wide digits hours minutes seconds =
    subst (SpellsTime bound) (sym (six_bytes cell wide)) (time_bytes bound _ _ _ _ _ _ small digits hours minutes seconds)
