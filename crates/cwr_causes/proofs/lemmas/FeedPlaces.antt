-- What stands after the last line feed of a text.
use Rattle.std.proofs.Common.{◌≡◌, ℕ, suc, ◌+◌, ◌<◌, true, false, List, [], ◌∷◌, ◌++◌, length, take, drop, get_or, refl, sym, ap}
use Rattle.std.proofs.Common.{◌∙◌, arith, inl, inr, append_assoc, take-append-drop, drop-cons}
use Rattle.std.specs.Prelude.{◌==◌, ◌-◌, Some, None, slice_index}
use Rattle.std.specs.List.{list_any}
use Rattle.std.proofs.lemmas.Bool.{eqb-true, or_from, false_from_ne_true}
use Rattle.std.proofs.lemmas.List.{get_or-drop, length-drop, take_all}
use Rattle.memchr.specs.Find.{IsLastByte, is_byte}
use Rattle.cwr_lines.specs.Format.Lines.{is_lf}
use Rattle.cwr_causes.specs.Steps.LinesAtEnd.{IsAfterFeed}

-- no place holds a line feed
no_feed : (xs : List ℕ) → ((k : ℕ) → k < length xs → (get_or xs k 0 == 10) ≡ true → ⊥) → list_any is_lf xs ≡ false
no_feed [] h = refl
no_feed (x ∷ xs) h =
    or_from (x == 10) (list_any is_lf xs) (false_from_ne_true (x == 10) (λ e. h 0 (omega arith) e))
    (no_feed xs (λ k l e. h (suc k) (omega arith) e))

-- what stands after no line feed is the text
pub after_none : (text : List ℕ) → IsLastByte (is_byte 10) text None → IsAfterFeed text text
after_none text h = record { front = []; split = refl; no_lf = no_feed text (λ k l e. h k (omega arith) l e); begins = inl refl }

-- what stands after the last one
pub after_some : (text found : List ℕ) (at : ℕ) → IsLastByte (is_byte 10) text (Some at)
    → found ≡ take (length text - (at + 1)) (drop (at + 1) text) → IsAfterFeed text found
after_some text found at h e = record {
  front = take at text ++ 10 ∷ [];
  split =
      sym (take-append-drop at text) ∙ ap (λ (l : List ℕ). take at text ++ l) rest
      ∙ sym (append_assoc (take at text) (10 ∷ []) found);
  no_lf = ap (list_any is_lf) found_is ∙ no_feed (drop (at + 1) text) (λ k l q.
      h.0.after (at + 1 + k) (omega arith) (omega (arith, l, length-drop (at + 1) text))
      (ap (λ (b : ℕ). b == 10) (sym (get_or-drop (at + 1) text k 0)) ∙ q));
  begins = inr (take at text, refl);
} where
  found_is : found ≡ drop (at + 1) text
  found_is = e ∙ take_all (length text - (at + 1)) (drop (at + 1) text) (omega (arith, length-drop (at + 1) text))

  suc_one : (k : ℕ) → k + 1 ≡ suc k
  suc_one k = omega arith

  rest : drop at text ≡ 10 ∷ found
  rest =
      drop-cons text at 0 h.0.high ∙ ap (λ (l : List ℕ). get_or text at 0 ∷ l) (ap (λ (k : ℕ). drop k text) (sym (suc_one at)))
      ∙ ap (λ (b : ℕ). b ∷ drop (at + 1) text) (eqb-true (slice_index text at) 10 h.1)
      ∙ ap (λ (l : List ℕ). 10 ∷ l) (sym found_is)
