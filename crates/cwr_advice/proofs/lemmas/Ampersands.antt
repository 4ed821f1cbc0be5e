-- Texts without an ampersand have no character as HTML writes it.
use Rattle.std.proofs.Common.{◌≡◌, ℕ, zero, suc, ◌<◌, true, false, List, [], ◌∷◌, length, refl, sym, arith, slice_index}
use Rattle.std.specs.Prelude.{◌&&◌, Option, Some, None}
use Rattle.std.specs.List.{list_any}
use Rattle.std.specs.Option.{is_some}
use Rattle.std.proofs.lemmas.Bool.{and_left, false_from_ne_true, or_from, or_left, or_parts, or_right}
use Rattle.memchr.specs.Find.{IsFirstByte, is_byte}
use Rattle.cwr_advice.specs.Format.Characters.{begins_with_name, has_html, is_ampersand}

-- no place holds one
none_at : (xs : List ℕ) → ((k : ℕ) → k < length xs → is_ampersand (slice_index xs k) ≡ true → ⊥) → list_any is_ampersand xs ≡ false
none_at [] h = refl
none_at (x ∷ xs) h =
    or_from (is_ampersand x) (list_any is_ampersand xs) (false_from_ne_true (is_ampersand x) (λ e. h 0 (omega arith) e))
    (none_at xs (λ k l e. h (suc k) (omega arith) e))

-- one place does
one_at : (xs : List ℕ) (k : ℕ) → k < length xs → is_ampersand (slice_index xs k) ≡ true → list_any is_ampersand xs ≡ true
one_at [] k l e = absurd (omega (arith, l))
one_at (x ∷ xs) zero l e = or_left (is_ampersand x) (list_any is_ampersand xs) e
one_at (x ∷ xs) (suc k) l e = or_right (is_ampersand x) (list_any is_ampersand xs) (one_at xs k (omega (arith, l)) e)

-- a search finds one just where there is one
pub ampersand_found : (r : Option ℕ) (cell : List ℕ) → IsFirstByte (is_byte 38) cell r → is_some r ≡ list_any is_ampersand cell
ampersand_found None cell h = sym (none_at cell (λ k l e. h k (omega arith) l e))
ampersand_found (Some at) cell h = sym (one_at cell at h.0.high h.1)

-- where there is none, nothing is written as HTML writes it
pub none_written : (cell : List ℕ) → list_any is_ampersand cell ≡ false → has_html cell ≡ false
none_written [] h = refl
none_written (b ∷ rest) h =
    let parts = or_parts (is_ampersand b) (list_any is_ampersand rest) h in
    or_from (is_ampersand b && begins_with_name rest) (has_html rest) (and_left (is_ampersand b) _ parts.0)
    (none_written rest parts.1)
