-- Whether a text is in UTF-8, as a test.
use Rattle.std.proofs.Common.{◌≡◌, ℕ, ◌-◌, Bool, true, false, List, ◌++◌, length, take, refl, sym, ap}
use Rattle.std.specs.Prelude.{Result, Ok, Err, MatchResult, is_ok, codes, flat_map, if◌then◌else◌}
use Rattle.std.specs.Str.{IsUtf8, is_utf8}
use Rattle.std.proofs.lemmas.Str.{IsUtf8-from_is_utf8, is_utf8-from_IsUtf8}
use Rattle.cwr_causes.specs.Format.RefusedWorks.{shown_line}
use Rattle.cwr_causes.specs.Format.Texts.{byte_words}

pub is_ok_utf8 : {A E : Type 0} (P : A → Type 0) (Q : E → Type 0) (r : Result A E) (bytes : List ℕ)
    → MatchResult r (λ s. P s × IsUtf8 bytes) (λ e. ¬ (IsUtf8 bytes) × Q e) → is_ok r ≡ is_utf8 bytes
is_ok_utf8 P Q (Ok s) bytes h = sym (is_utf8-from_IsUtf8 bytes h.1)
is_ok_utf8 P Q (Err e) bytes h = by (is_utf8 bytes) refl
  where
    by : (x : Bool) → is_utf8 bytes ≡ x → false ≡ x
    by true t = absurd (h.0 (IsUtf8-from_is_utf8 bytes t))
    by false t = refl

-- a line that is text is shown as it is
pub shown_text : (line : List ℕ) → IsUtf8 line → shown_line line ≡ line
shown_text line text =
    ap (λ (b : Bool). if b then line else flat_map byte_words (take (length line - 1) line) ++ codes "\n")
    (is_utf8-from_IsUtf8 line text)

-- and any other by the numbers of its bytes
pub shown_bytes : (line : List ℕ) → ¬ (IsUtf8 line)
    → shown_line line ≡ flat_map byte_words (take (length line - 1) line) ++ codes "\n"
shown_bytes line other = by (is_utf8 line) refl
  where
    by : (b : Bool) → is_utf8 line ≡ b
        → (if b then line else flat_map byte_words (take (length line - 1) line) ++ codes "\n")
        ≡ flat_map byte_words (take (length line - 1) line) ++ codes "\n"
    by true e = absurd (other (IsUtf8-from_is_utf8 line e))
    by false e = refl
