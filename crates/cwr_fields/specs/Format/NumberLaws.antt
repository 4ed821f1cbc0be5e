-- What the digits of a number say of it, and that they are a cell of numbers.
use Rattle.std.proofs.Common.{◌≡◌, refl, sym, ap, ap₂, ◌∙◌, length, ℕ, zero, suc, ◌+◌, ◌%◌, ◌/◌, ◌^◌, ◌<◌, List, [], ◌∷◌, ◌++◌}
use Rattle.std.proofs.Common.{replicate, arith, length-append, pow-suc}
use Rattle.std.proofs.lemmas.List.{length-replicate}
use Rattle.cwr_fields.specs.declared.cell_types.CellType.TheVariants as types
use Rattle.cwr_fields.specs.Format.Bytes.{digits}
use Rattle.cwr_fields.specs.Format.Cells.{Allows}

-- as many digits as the width
pub number_width : (width n : ℕ) → length (digits width n) ≡ width
unfolding digits
number_width zero n = refl
number_width (suc width) n =
    omega (arith, length-append (digits width (n / 10)) ((48 + n % 10) ∷ []), number_width width (n / 10))

-- at least one digit of a number that they can write are a cell of numbers
pub number_fits : (width n : ℕ) → 0 < width → n < 10 ^ width → Allows types.Number (digits width n)
number_fits width n wide small =
    let many : length (digits width n) ≡ width = number_width width n in
    (n, rw many wide, rw many small, rw many refl)

-- texts with one more byte are the same where both parts are
pub snoc_equal : (xs ys : List ℕ) (x y : ℕ) → xs ++ x ∷ [] ≡ ys ++ y ∷ [] → (xs ≡ ys) × (x ≡ y)
snoc_equal [] [] x y e = (refl, cc e)
snoc_equal [] (b ∷ ys) x y e = absurd (omega (arith, ap length e, length-append ys (y ∷ [])))
snoc_equal (a ∷ xs) [] x y e = absurd (omega (arith, ap length e, length-append xs (x ∷ [])))
snoc_equal (a ∷ xs) (b ∷ ys) x y e =
    let rest = snoc_equal xs ys x y (cc e) in
    let first : a ≡ b = cc e in
    (ap₂ (λ (c : ℕ) (cs : List ℕ). c ∷ cs) first rest.0, rest.1)

-- numbers of the same digits are the same
pub number_equal : (width x y : ℕ) → x < 10 ^ width → y < 10 ^ width → digits width x ≡ digits width y → x ≡ y
unfolding digits
number_equal zero x y h k e = omega arith
number_equal (suc width) x y h k e =
    let both = snoc_equal (digits width (x / 10)) (digits width (y / 10)) (48 + x % 10) (48 + y % 10) e in
    let hx : x / 10 < 10 ^ width = omega (arith, pow-suc 10 width) in
    let hy : y / 10 < 10 ^ width = omega (arith, pow-suc 10 width) in
    let high : x / 10 ≡ y / 10 = number_equal width (x / 10) (y / 10) hx hy both.0 in
    let low : 48 + x % 10 ≡ 48 + y % 10 = both.1 in
    omega arith

-- so many spaces
abbrev spaces : ℕ → List ℕ
spaces width = replicate width 32

spaces-snoc : (width : ℕ) → spaces (suc width) ≡ spaces width ++ 32 ∷ []
spaces-snoc zero = refl
spaces-snoc (suc width) = ap (λ (l : List ℕ). 32 ∷ l) (spaces-snoc width)

-- the last of some digits is no space
pub not_spaces : (width n : ℕ) → ¬ (digits (suc width) n ≡ spaces (suc width))
unfolding digits
not_spaces width n e =
    let both = snoc_equal (digits width (n / 10)) (spaces width) (48 + n % 10) 32 (e ∙ spaces-snoc width) in
    let low : 48 + n % 10 ≡ 32 = both.1 in
    omega arith

-- parts of the same length that make up the same text are the same
pub parts_equal : (xs ys as' bs : List ℕ) → length xs ≡ length as' → xs ++ ys ≡ as' ++ bs → (xs ≡ as') × (ys ≡ bs)
parts_equal [] ys [] bs h e = (refl, e)
parts_equal [] ys (a ∷ as') bs h e = absurd (omega (arith, h))
parts_equal (x ∷ xs) ys [] bs h e = absurd (omega (arith, h))
parts_equal (x ∷ xs) ys (a ∷ as') bs h e =
    let r = parts_equal xs ys as' bs (omega (arith, h)) (cc e) in
    let first : x ≡ a = cc e in
    (ap₂ (λ (c : ℕ) (cs : List ℕ). c ∷ cs) first r.0, r.1)

-- digits of the same width after texts of the same length
pub digits_after : (width n m : ℕ) (xs ys : List ℕ) → length xs ≡ length ys → n < 10 ^ width → m < 10 ^ width
    → xs ++ digits width n ≡ ys ++ digits width m → (xs ≡ ys) × (n ≡ m)
digits_after width n m xs ys h hn hm e =
    let both = parts_equal xs (digits width n) ys (digits width m) h e in
    (both.0, number_equal width n m hn hm both.1)

-- a text that ends in digits isn't spaces
pub not_spaces_after : (width rest n : ℕ) (xs : List ℕ) → length xs ≡ rest
    → ¬ (xs ++ digits (suc width) n ≡ spaces rest ++ spaces (suc width))
not_spaces_after width rest n xs h e =
    not_spaces width n
    (parts_equal xs (digits (suc width) n) (spaces rest) (spaces (suc width)) (h ∙ sym (length-replicate rest 32)) e).1
