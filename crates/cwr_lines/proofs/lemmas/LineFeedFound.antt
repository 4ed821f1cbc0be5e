-- Where the first line feed of a text stands.
use Rattle.std.proofs.Common.{◌≡◌, ℕ, suc, ◌<◌, true, false, List, [], ◌∷◌, length, take, get_or, refl, sym, ap, ◌∙◌, arith}
use Rattle.std.proofs.Common.{MatchOption, IsFalse, slice_index}
use Rattle.std.specs.Prelude.{◌==◌, Option, Some, None}
use Rattle.std.specs.List.{list_any}
use Rattle.std.proofs.lemmas.Bool.{eqb-true, or_from, false_from_ne_true}
use Rattle.std.proofs.lemmas.List.{get_or-take, length-take}
use Rattle.memchr.specs.Find.{IsFirstByte, is_byte}
use Rattle.cwr_lines.specs.Format.Lines.{is_lf}

-- no place holds a line feed
no_lf_by_places : (xs : List ℕ) → ((k : ℕ) → k < length xs → (get_or xs k 0 == 10) ≡ true → ⊥) → list_any is_lf xs ≡ false
no_lf_by_places [] h = refl
no_lf_by_places (x ∷ xs) h =
    or_from (x == 10) (list_any is_lf xs) (false_from_ne_true (x == 10) (λ e. h 0 (omega arith) e))
    (no_lf_by_places xs (λ k l e. h (suc k) (omega arith) e))

-- the first place of a line feed, or that there is none
pub first_line_feed : (piece : List ℕ) (r : Option ℕ) → IsFirstByte (is_byte 10) piece r
    → MatchOption r (IsFalse (list_any is_lf piece))
    (λ at. (at < length piece) × IsFalse (list_any is_lf (take at piece)) × (slice_index piece at ≡ 10))
first_line_feed piece None h = no_lf_by_places piece (λ k l e. h k (omega arith) l e)
first_line_feed piece (Some at) h = (
  h.0.high,
  no_lf_by_places (take at piece) (λ k l e.
      let below : k < at = omega (arith, length-take at piece) in
      h.0.before k (omega arith) below (ap (λ (b : ℕ). b == 10) (sym (get_or-take at piece k 0 below)) ∙ e)),
  eqb-true (slice_index piece at) 10 h.1,
)
