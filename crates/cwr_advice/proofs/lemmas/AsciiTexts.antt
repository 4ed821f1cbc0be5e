-- Texts of ASCII alone, and UTF-8.
use Rattle.std.proofs.Common.{◌≡◌, ℕ, zero, suc, ◌≤◌, ◌<◌, Bool, true, false, not, List, [], ◌∷◌, refl, sym, ap, arith}
use Rattle.std.specs.Prelude.{Result, Ok, Err, MatchBool, MatchResult, ◌&&◌, ◌==◌, nat_eq, nat_lt, slice_index}
use Rattle.std.specs.List.{starts_with}
use Rattle.std.specs.Result.{is_ok}
use Rattle.std.specs.Str.{IsAscii, IsNotAscii, IsUtf8, is_utf8}
use Rattle.std.proofs.lemmas.Bool.{and_from, and_left, and_parts, and_right, false_from_ne_true, le-ltb, lt-ltb, ltb-true}
use Rattle.std.proofs.lemmas.Bool.{eqb-true, not-false, or_from}
use Rattle.std.proofs.lemmas.Str.{IsUtf8-from_ascii, IsUtf8-from_is_utf8, is_utf8-from_IsUtf8}
use Rattle.cwr_advice.specs.declared.characters.Characters.{Characters}
use Rattle.cwr_advice.specs.declared.characters.Characters.TheVariants.{Unsaid, Utf8, Other}
use Rattle.cwr_advice.specs.Format.Characters.{has_lost_letter, is_ascii, is_unlike}

all_ascii : (bs : List ℕ) → IsAscii bs → true ≡ is_ascii bs
all_ascii [] h = refl
all_ascii (b ∷ bs) h = sym (and_from (nat_lt b 128) (is_ascii bs) (lt-ltb b 128 (h 0)) (sym (all_ascii bs (λ i. h (suc i)))))

not_ascii_at : (bs : List ℕ) (i : ℕ) → 128 ≤ slice_index bs i → is_ascii bs ≡ false
not_ascii_at [] zero h = absurd (omega (arith, h))
not_ascii_at [] (suc i) h = absurd (omega (arith, h))
not_ascii_at (b ∷ bs) zero h = and_left (nat_lt b 128) (is_ascii bs) (le-ltb b 128 h)
not_ascii_at (b ∷ bs) (suc i) h = and_right (nat_lt b 128) (is_ascii bs) (not_ascii_at bs i h)

some_not_ascii : (bs : List ℕ) → IsNotAscii bs → false ≡ is_ascii bs
some_not_ascii bs h = sym (not_ascii_at bs h.0 h.1)

ascii_bytes : (bs : List ℕ) → is_ascii bs ≡ true → (i : ℕ) → slice_index bs i < 128
ascii_bytes [] h zero = omega arith
ascii_bytes [] h (suc i) = omega arith
ascii_bytes (b ∷ bs) h zero = ltb-true b 128 (and_parts (nat_lt b 128) (is_ascii bs) h).0
ascii_bytes (b ∷ bs) h (suc i) = ascii_bytes bs (and_parts (nat_lt b 128) (is_ascii bs) h).1 i

-- the test of bytes says so
pub ascii_is : (b : Bool) (bs : List ℕ) → MatchBool b (IsAscii bs) (IsNotAscii bs) → b ≡ is_ascii bs
ascii_is true bs h = all_ascii bs h
ascii_is false bs h = some_not_ascii bs h

is_no_utf8 : (bs : List ℕ) → (IsUtf8 bs → ⊥) → false ≡ is_utf8 bs
is_no_utf8 bs h = sym (false_from_ne_true (is_utf8 bs) (λ e. h (IsUtf8-from_is_utf8 bs e)))

is_some_utf8 : (bs : List ℕ) → IsUtf8 bs → true ≡ is_utf8 bs
is_some_utf8 bs h = sym (is_utf8-from_IsUtf8 bs h)

-- and so does what reads them as UTF-8
pub utf8_is : {T E : Type 0} → (r : Result T E) (bs : List ℕ) (P : T → Type 0) (Q : E → Type 0)
    → MatchResult r (λ s. P s × IsUtf8 bs) (λ e. (IsUtf8 bs → ⊥) × Q e) → is_ok r ≡ is_utf8 bs
utf8_is (Ok s) bs P Q h = is_some_utf8 bs h.1
utf8_is (Err e) bs P Q h = is_no_utf8 bs h.0

-- a text of ASCII goes with whatever is said
pub never_unlike : (said : Characters) (cell : List ℕ) → not (is_ascii cell) ≡ false → is_unlike said cell ≡ false
never_unlike Unsaid cell e = and_left (not (is_ascii cell)) (is_utf8 cell) e
never_unlike Utf8 cell e =
    ap not (is_utf8-from_IsUtf8 cell (IsUtf8-from_ascii cell (ascii_bytes cell (not-false (is_ascii cell) e))))
never_unlike Other cell e = refl

none_lost : (cell : List ℕ) → is_ascii cell ≡ true → has_lost_letter cell ≡ false
none_lost [] h = refl
none_lost (b ∷ rest) h =
    let parts = and_parts (nat_lt b 128) (is_ascii rest) h in
    let other : (b == 239) ≡ false =
    false_from_ne_true (b == 239) (λ e. absurd (omega (arith, eqb-true b 239 e, ltb-true b 128 parts.0))) in
    or_from ((b == 239) && starts_with nat_eq rest (191 ∷ 189 ∷ [])) (has_lost_letter rest) (and_left (b == 239) _ other)
    (none_lost rest parts.1)

-- and has no letter that was lost
pub never_lost : (cell : List ℕ) → not (is_ascii cell) ≡ false → has_lost_letter cell ≡ false
never_lost cell e = none_lost cell (not-false (is_ascii cell) e)
