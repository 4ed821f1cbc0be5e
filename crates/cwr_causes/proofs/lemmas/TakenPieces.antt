-- What is read and counted in two steps.
use Rattle.std.proofs.Common.{◌≡◌, ℕ, zero, suc, ◌+◌, ◌-◌, ◌<◌, ◌≤◌, Bool, true, false, true≢false, List, [], ◌∷◌, ◌++◌, length}
use Rattle.std.proofs.Common.{take, drop, Option, Some, None, refl, sym, ap, ap₂, subst, ◌∙◌, arith}
use Rattle.std.specs.Prelude.{◌^◌, ◌&&◌, min, nat_eq, nat_lt, slice_index, if◌then◌else◌, IfSome}
use Rattle.std.specs.Io.{StartsWith}
use Rattle.std.specs.List.{list_all}
use Rattle.std.specs.Io.KnownBytes.{Consumes, IsAtEnd, Keeps}
use Rattle.std.proofs.lemmas.Bool.{eqb-true, ltb-false, ltb-true}
use Rattle.cwr_decode.proofs.lemmas.FromReader.{consumes_taken}
use Rattle.std.proofs.KnownBytes.{Consumes-kept, Consumes-nil, Consumes-trans}
use Rattle.std.proofs.lemmas.List.Folds.{list_all-append}
use Rattle.std.proofs.lemmas.List.{get_or-append_right, get_or_append_left, length-append}
use Rattle.cwr_causes.specs.declared.trailing.Trailing.{Trailing}
use Rattle.cwr_causes.specs.Format.Trailing.{IsTrailing, TakesMore, first_bytes, is_filler}
use Rattle.cwr_causes.specs.Steps.Trailing.{HasTaken, TakesPiece, begins_with, byte_with}

-- nothing is taken
pub no_more : (left : Option (List ℕ)) → TakesMore left left
no_more left = ([], Consumes-nil left)

-- known bytes that stay are none that were taken
pub takes_none : (left after : Option (List ℕ)) → Keeps left after → TakesMore left after
takes_none left after k = ([], Consumes-kept left left after [] (Consumes-nil left) k)

pub takes_both : (left mid after : Option (List ℕ)) → TakesMore left mid → TakesMore mid after → TakesMore left after
takes_both left mid after p q = (p.0 ++ q.0, Consumes-trans left mid after p.0 q.0 p.1 q.1)

-- ---- the first bytes

byte_joined : (more piece begins : List ℕ) (count place : ℕ) → count ≡ min (length more) (2 ^ 64 - 1) → place < 3
    → slice_index begins place ≡ slice_index more place → byte_with count begins piece place ≡ slice_index (more ++ piece) place
byte_joined more piece begins count place c low same = by (nat_lt place count) refl
  where
    by : (b : Bool) → nat_lt place count ≡ b
        → (if b then slice_index begins place else slice_index piece (place - count)) ≡ slice_index (more ++ piece) place
    by true e =
        let before : place < count = ltb-true place count e in same ∙ sym (get_or_append_left more piece 0 place (omega arith))
    by false e =
        let after : count ≤ place =
        ltb-false place count e in sym (get_or-append_right more piece count place 0 (omega arith) after)

begins_joined : (more piece begins : List ℕ) (count : ℕ) → count ≡ min (length more) (2 ^ 64 - 1) → begins ≡ first_bytes more
    → begins_with count begins piece ≡ first_bytes (more ++ piece)
begins_joined more piece begins count c e =
    let first = byte_joined more piece begins count 0 c (omega arith) (ap (λ (l : List ℕ). slice_index l 0) e) in
    let second = byte_joined more piece begins count 1 c (omega arith) (ap (λ (l : List ℕ). slice_index l 1) e) in
    let third = byte_joined more piece begins count 2 c (omega arith) (ap (λ (l : List ℕ). slice_index l 2) e) in
    ap₂ (λ (x : ℕ) (l : List ℕ). x ∷ l) first (ap₂ (λ (x : ℕ) (l : List ℕ). x ∷ l) second (ap (λ (x : ℕ). x ∷ []) third))

-- ---- pieces

-- none was read yet
pub taken_none : (left : Option (List ℕ)) (found : Trailing) → found.bytes ≡ 0 → found.begins ≡ 0 ∷ 0 ∷ 0 ∷ []
    → found.is_all ≡ false → found.is_filler ≡ true → HasTaken left left 0 found
taken_none left found none begins goes_on filler = record {
  more = [];
  consumed = Consumes-nil left;
  counted = none;
  begins = begins;
  filler = filler;
  each = omega arith;
  goes_on = goes_on;
}

ends_with : (left mid after : Option (List ℕ)) (more : List ℕ) → Consumes left mid more → IfSome mid (λ bytes. IsAtEnd after)
    → IfSome left (λ bytes. IsAtEnd after)
ends_with None mid after more c h = tt
ends_with (Some xs) None after more c h = absurd c
ends_with (Some xs) (Some ys) after more c h = h

-- whether each byte fills up, of both
filler_joined : (more piece : List ℕ) (old new : Bool) → old ≡ list_all is_filler more → new ≡ (old && list_all is_filler piece)
    → new ≡ list_all is_filler (more ++ piece)
filler_joined more piece old new e f =
    f ∙ ap (λ (b : Bool). b && list_all is_filler piece) e ∙ sym (list_all-append is_filler more piece)

-- a piece more was read
pub taken_more : (left mid after : Option (List ℕ)) (pieces : ℕ) (old new : Trailing) (ended : Bool) → ended ≡ false
    → HasTaken left mid pieces old → TakesPiece mid after old new ended → HasTaken left after (pieces + 1) new
taken_more left mid after pieces old new ended e h p = record {
  more = h.more ++ p.piece;
  consumed = Consumes-trans left mid after h.more p.piece h.consumed p.consumed;
  counted = omega (arith, h.counted, p.counted, length-append h.more p.piece);
  begins = p.begins ∙ begins_joined h.more p.piece old.begins old.bytes h.counted h.begins;
  filler = filler_joined h.more p.piece old.is_filler new.is_filler h.filler p.filler;
  each = omega (arith, h.each, p.some e, length-append h.more p.piece);
  goes_on = p.kept ∙ h.goes_on;
}

-- the end was reached
pub taken_all : (left mid after : Option (List ℕ)) (pieces : ℕ) (old new : Trailing) (ended : Bool) → ended ≡ true
    → HasTaken left mid pieces old → TakesPiece mid after old new ended → IsTrailing left after (record new { is_all = true })
taken_all left mid after pieces old new ended e h p = record {
  more = h.more ++ p.piece;
  consumed = Consumes-trans left mid after h.more p.piece h.consumed p.consumed;
  counted = omega (arith, h.counted, p.counted, length-append h.more p.piece);
  begins = p.begins ∙ begins_joined h.more p.piece old.begins old.bytes h.counted h.begins;
  filler = filler_joined h.more p.piece old.is_filler new.is_filler h.filler p.filler;
  all = λ _. ends_with left mid after h.more h.consumed (p.at_end e);
  some = λ f. absurd (true≢false f);
}

-- whatever was read was taken
pub taken_so_far : (left after : Option (List ℕ)) (pieces : ℕ) (found : Trailing) → HasTaken left after pieces found
    → TakesMore left after
taken_so_far left after pieces found h = (h.more, h.consumed)

take_all : (xs : List ℕ) → take (length xs) xs ≡ xs
take_all [] = refl
take_all (x ∷ xs) = ap (λ (l : List ℕ). x ∷ l) (take_all xs)

-- what a reader shows is taken whole
pub takes_shown : (left mid after : Option (List ℕ)) (piece : List ℕ) → Keeps left mid → IfSome left (λ xs. StartsWith xs piece)
    → IfSome mid (λ xs. after ≡ Some (drop (length piece) xs)) → TakesMore left after
takes_shown left mid after piece kept front lost = (
  piece,
  subst (Consumes left after) (take_all piece)
      (consumes_taken left mid after piece (length piece) kept front (omega arith) lost),
)

-- and counted
pub takes_piece : (left mid after : Option (List ℕ)) (piece : List ℕ) (old new : Trailing) → Keeps left mid
    → IfSome left (λ xs. StartsWith xs piece) → IfSome left (λ xs. length piece ≡ 0 → xs ≡ [])
    → IfSome mid (λ xs. after ≡ Some (drop (length piece) xs)) → new.bytes ≡ min (old.bytes + length piece) (2 ^ 64 - 1)
    → new.begins ≡ begins_with old.bytes old.begins piece → new.is_all ≡ old.is_all
    → new.is_filler ≡ (old.is_filler && list_all is_filler piece) → TakesPiece left after old new (nat_eq (length piece) 0)
unfolding takes_shown
takes_piece left mid after piece old new kept front end lost counted begins same filler = record {
  piece = piece;
  consumed = (takes_shown left mid after piece kept front lost).1;
  counted = counted;
  begins = begins;
  filler = filler;
  kept = same;
  at_end = λ e. ended left mid kept end lost (eqb-true (length piece) 0 e);
  some = λ e. not_none (length piece) e;
} where
  ended : (left mid : Option (List ℕ)) → Keeps left mid → IfSome left (λ xs. length piece ≡ 0 → xs ≡ [])
      → IfSome mid (λ xs. after ≡ Some (drop (length piece) xs)) → length piece ≡ 0 → IfSome left (λ bytes. IsAtEnd after)
  ended None mid kept end lost e = tt
  ended (Some xs) None kept end lost e = absurd kept
  ended (Some xs) (Some ys) kept end lost e =
      subst IsAtEnd (sym (lost ∙ ap₂ (λ (k : ℕ) (l : List ℕ). Some (drop k l)) e (kept ∙ end e))) refl

  not_none : (n : ℕ) → nat_eq n 0 ≡ false → 0 < n
  not_none zero e = absurd (true≢false e)
  not_none (suc n) e = omega arith

pub taken_by : (left after : Option (List ℕ)) (found : Trailing) → IsTrailing left after found → TakesMore left after
taken_by left after found h = (h.more, h.consumed)
