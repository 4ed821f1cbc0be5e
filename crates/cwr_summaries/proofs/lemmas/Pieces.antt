-- What is taken of a reader, piece by piece.
use Rattle.std.proofs.Common.{◌≡◌, ℕ, ◌+◌, ◌-◌, ◌^◌, List, [], ◌∷◌, ◌++◌, length, drop, Option, Some, None, refl, sym, subst, ap, ap₂, ◌∙◌, append-nil, arith}
use Rattle.std.specs.Prelude.{IfSome, min}
use Rattle.std.specs.Io.{StartsWith}
use Rattle.std.specs.Io.KnownBytes.{Consumes, IsAtEnd, Keeps}
use Rattle.std.proofs.KnownBytes.{Consumes-trans, starts_with_rest}
use Rattle.std.proofs.lemmas.List.{length-append}
use Rattle.cwr_summaries.specs.Steps.Pieces.{IsPiece}

pub is_piece : (left mid after : Option (List ℕ)) (piece : List ℕ) → Keeps left mid → IfSome left (λ xs. StartsWith xs piece)
    → IfSome left (λ xs. length piece ≡ 0 → xs ≡ []) → IfSome mid (λ xs. after ≡ Some (drop (length piece) xs))
    → IsPiece left after (length piece)
is_piece left mid after piece kept front end lost = record {
  piece = piece;
  consumed = shown left mid kept front lost;
  counted = refl;
  at_end = λ e. ended left mid kept end lost e;
} where
  shown : (left mid : Option (List ℕ)) → Keeps left mid → IfSome left (λ xs. StartsWith xs piece)
      → IfSome mid (λ xs. after ≡ Some (drop (length piece) xs)) → Consumes left after piece
  shown None mid kept front lost = tt
  shown (Some xs) None kept front lost = absurd kept
  shown (Some xs) (Some ys) kept front lost =
      subst (λ (o : Option (List ℕ)). Consumes (Some xs) o piece) (sym lost)
      (starts_with_rest xs piece front ∙ ap (λ (l : List ℕ). piece ++ drop (length piece) l) (sym kept))

  ended : (left mid : Option (List ℕ)) → Keeps left mid → IfSome left (λ xs. length piece ≡ 0 → xs ≡ [])
      → IfSome mid (λ xs. after ≡ Some (drop (length piece) xs)) → length piece ≡ 0 → IfSome left (λ bytes. IsAtEnd after)
  ended None mid kept end lost e = tt
  ended (Some xs) None kept end lost e = absurd kept
  ended (Some xs) (Some ys) kept end lost e =
      subst IsAtEnd (sym (lost ∙ ap₂ (λ (k : ℕ) (l : List ℕ). Some (drop k l)) e (kept ∙ end e))) refl

-- what was taken before, and a piece more
pub taken_more : (before mid after : Option (List ℕ)) (bytes count sum : ℕ)
    → (taken : List ℕ) × Consumes before mid taken × (bytes ≡ min (length taken) (2 ^ 64 - 1)) → IsPiece mid after count
    → sum ≡ min (bytes + count) (2 ^ 64 - 1)
    → (taken : List ℕ) × Consumes before after taken × (sum ≡ min (length taken) (2 ^ 64 - 1))
taken_more before mid after bytes count sum (taken, consumed, counted) more e = (
  taken ++ more.piece,
  Consumes-trans before mid after taken more.piece consumed more.consumed,
  omega (arith, e, counted, more.counted, length-append taken more.piece),
)

-- up to the end
pub all_taken : (before mid after : Option (List ℕ)) (bytes count : ℕ)
    → (taken : List ℕ) × Consumes before mid taken × (bytes ≡ min (length taken) (2 ^ 64 - 1)) → IsPiece mid after count → count ≡ 0
    → IfSome before (λ left. bytes ≡ min (length left) (2 ^ 64 - 1)) × IfSome before (λ left. IsAtEnd after)
all_taken None mid after bytes count taken more e = (tt, tt)
all_taken (Some w) None after bytes count (taken, consumed, counted) more e = absurd consumed
all_taken (Some w) (Some l) after bytes count (taken, consumed, counted) more e =
    let none : l ≡ [] = nothing l after more.piece more.consumed (sym more.counted ∙ e) (more.at_end e) in
    (counted ∙ ap (λ (xs : List ℕ). min (length xs) (2 ^ 64 - 1)) (sym (consumed ∙ ap (λ (x : List ℕ). taken ++ x) none ∙ append-nil taken)), more.at_end e)
  where
    nothing : (l : List ℕ) (after : Option (List ℕ)) (piece : List ℕ) → Consumes (Some l) after piece → length piece ≡ 0 → IsAtEnd after → l ≡ []
    nothing l None piece c none end = absurd c
    nothing l (Some m) [] c none end = c ∙ end
    nothing l (Some m) (x ∷ piece) c none end = absurd (omega (arith, none))
