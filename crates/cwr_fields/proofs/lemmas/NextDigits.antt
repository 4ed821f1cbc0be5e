-- The digits of the next number are those of a number with one more at the end, where that isn't a nine; those of a number
-- below ten are zeros and one digit.
use Rattle.std.proofs.Common.{◌≡◌, ◌≢◌, ℕ, ◌+◌, ◌/◌, ◌%◌, ◌<◌, List, [], ◌∷◌, ◌++◌, slice_index_or, slice_set, refl, ap, ap₂}
use Rattle.std.proofs.Common.{subst, ◌∙◌, arith}
use Rattle.std.specs.Prelude.{slice_index}
use Rattle.cwr_fields.specs.Format.Bytes.{digits}

pub zeros : 48 ∷ 48 ∷ 48 ∷ 48 ∷ 48 ∷ 48 ∷ 48 ∷ 48 ∷ [] ≡ digits 8 0
unfolding digits
zeros = refl

pub last_digit : (text : List ℕ) (n : ℕ) → text ≡ digits 8 n → slice_index_or text 7 0 ≡ 48 + n % 10
unfolding digits
last_digit text n e = ap (λ (t : List ℕ). slice_index_or t 7 0) e

pub one_more : (text : List ℕ) (n : ℕ) → text ≡ digits 8 n → slice_index text 7 ≢ 57
    → slice_set text 7 (slice_index_or text 7 0 + 1) ≡ digits 8 (n + 1)
unfolding digits
one_more text n e last =
    let here : 48 + n % 10 ≢ 57 = subst (λ (k : ℕ). k ≢ 57) (last_digit text n e) last in
    let tens : n / 10 ≡ (n + 1) / 10 = omega (arith, here) in
    let units : 48 + n % 10 + 1 ≡ 48 + (n + 1) % 10 = omega (arith, here) in
    ap (λ (t : List ℕ). slice_set t 7 (slice_index_or t 7 0 + 1)) e ∙ ap₂ (λ (m k : ℕ). digits 7 m ++ k ∷ []) tens units

pub tens_digit : (text : List ℕ) (n : ℕ) → text ≡ digits 8 n → slice_index_or text 6 0 ≡ 48 + n / 10 % 10
unfolding digits
tens_digit text n e = ap (λ (t : List ℕ). slice_index_or t 6 0) e

pub ten_more : (text : List ℕ) (n : ℕ) → text ≡ digits 8 n → slice_index text 7 ≡ 57 → slice_index text 6 ≢ 57
    → slice_set (slice_set text 6 (slice_index_or text 6 0 + 1)) 7 48 ≡ digits 8 (n + 1)
unfolding digits
ten_more text n e last before =
    let nine : 48 + n % 10 ≡ 57 = subst (λ (k : ℕ). k ≡ 57) (last_digit text n e) last in
    let here : 48 + n / 10 % 10 ≢ 57 = subst (λ (k : ℕ). k ≢ 57) (tens_digit text n e) before in
    let hundreds : n / 10 / 10 ≡ (n + 1) / 10 / 10 = omega (arith, nine, here) in
    let tens : 48 + n / 10 % 10 + 1 ≡ 48 + (n + 1) / 10 % 10 = omega (arith, nine, here) in
    let units : 48 ≡ 48 + (n + 1) % 10 = omega (arith, nine) in
    ap (λ (t : List ℕ). slice_set (slice_set t 6 (slice_index_or t 6 0 + 1)) 7 48) e
    ∙ ap₂ (λ (m k : ℕ). (digits 6 m ++ k ∷ []) ++ 48 ∷ []) hundreds tens
    ∙ ap (λ (k : ℕ). digits 7 ((n + 1) / 10) ++ k ∷ []) units

pub one_alone : (n : ℕ) → n < 10 → 48 ∷ 48 ∷ 48 ∷ 48 ∷ 48 ∷ 48 ∷ 48 ∷ (48 + n) ∷ [] ≡ digits 8 n
unfolding digits
one_alone n below =
    let tens : 0 ≡ n / 10 = omega (arith, below) in
    let units : 48 + n ≡ 48 + n % 10 = omega (arith, below) in
    ap₂ (λ (m k : ℕ). digits 7 m ++ k ∷ []) tens units
