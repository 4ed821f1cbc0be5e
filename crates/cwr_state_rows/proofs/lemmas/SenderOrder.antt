-- Answers by different senders stand in one order by their senders.
use Rattle.std.proofs.Common.{◌≡◌, ℕ, suc, ◌<◌, Bool, true, false, cond, List, [], ◌∷◌, length, refl, sym, ap, ap₂, subst, ◌∙◌, arith, inl, inr}
use Rattle.std.specs.Prelude.{◌⊎◌, slice_index_or}
use Rattle.std.specs.List.{AllPairs}
use Rattle.cwr_sent.specs.Format.Answers.{Answer, same_sender}
use Rattle.cwr_delivery.proofs.lemmas.CountingOnes.{by_sender as from_sender}
use Rattle.cwr_state_rows.specs.Format.StateRows.{by_sender, inserted, sender_before}
use Rattle.cwr_state_rows.proofs.lemmas.BytesInOrder.{before_on, not_both, same_bytes}
use Rattle.cwr_state_rows.proofs.lemmas.Members.{IsIn}

-- ---- different senders

-- its sender is none of theirs
abbrev pub IsOther : Answer → List Answer → Type 0
IsOther a [] = Unit {0}
IsOther a (b ∷ rest) = (same_sender a b ≡ false) × IsOther a rest

abbrev pub AreOthers : List Answer → Type 0
AreOthers [] = Unit {0}
AreOthers (a ∷ rest) = IsOther a rest × AreOthers rest

other_at : (x : Answer) (xs : List Answer)
    → ((j : ℕ) (d : Answer) → j < length xs → same_sender x (slice_index_or xs j d) ≡ false) → IsOther x xs
other_at x [] h = tt
other_at x (y ∷ xs) h = (h 0 y (omega arith), other_at x xs (λ j d less. h (suc j) d (omega (arith, less))))

pub others_of : (xs : List Answer) → AllPairs (λ x y. same_sender x y ≡ false) xs → AreOthers xs
others_of [] h = tt
others_of (x ∷ xs) h = (
  other_at x xs (λ j d less. h 0 (suc j) d (omega arith) (omega (arith, less))),
  others_of xs (λ i j d less within. h (suc i) (suc j) d (omega (arith, less)) (omega (arith, within))),
)

-- ---- in order

-- its sender stands before theirs
abbrev pub Precedes : Answer → List Answer → Type 0
Precedes a [] = Unit {0}
Precedes a (b ∷ rest) = (sender_before a b ≡ true) × Precedes a rest

abbrev pub AreRising : List Answer → Type 0
AreRising [] = Unit {0}
AreRising (a ∷ rest) = Precedes a rest × AreRising rest

precedes_on : (a b : Answer) (rest : List Answer) → sender_before a b ≡ true → Precedes b rest → Precedes a rest
precedes_on a b [] h g = tt
precedes_on a b (c ∷ rest) h g = (before_on a.sender b.sender c.sender h g.0, precedes_on a b rest h g.1)

precedes_inserted : (a new : Answer) (xs : List Answer) → sender_before a new ≡ true → Precedes a xs → Precedes a (inserted new xs)
precedes_inserted a new [] h g = (h, tt)
precedes_inserted a new (x ∷ xs) h g = by (sender_before new x) (precedes_inserted a new xs h g.1)
  where
    by : (b : Bool) → Precedes a (inserted new xs) → Precedes a (cond b (new ∷ x ∷ xs) (x ∷ inserted new xs))
    by true rest = (h, g)
    by false rest = (g.0, rest)

after_other : (new x : Answer) → same_sender new x ≡ false → sender_before new x ≡ false → sender_before x new ≡ true
after_other new x other h = by (sender_before x new) refl
  where
    by : (b : Bool) → sender_before x new ≡ b → b ≡ true
    by true e = refl
    by false e = let same = from_sender new x (same_bytes new.sender x.sender h e) in absurd (cc (same, other))

rising_inserted : (new : Answer) (xs : List Answer) → IsOther new xs → AreRising xs → AreRising (inserted new xs)
rising_inserted new [] other rising = (tt, tt)
rising_inserted new (x ∷ xs) other rising =
    by (sender_before new x) refl (rising_inserted new xs other.1 rising.1)
  where
    by : (b : Bool) → sender_before new x ≡ b → AreRising (inserted new xs)
        → AreRising (cond b (new ∷ x ∷ xs) (x ∷ inserted new xs))
    by true e rest = ((e, precedes_on new x xs e rising.0), rising)
    by false e rest = (precedes_inserted x new xs (after_other new x other.0 e) rising.0, rest)

other_inserted : (a new : Answer) (xs : List Answer) → same_sender a new ≡ false → IsOther a xs → IsOther a (inserted new xs)
other_inserted a new [] h g = (h, tt)
other_inserted a new (x ∷ xs) h g = by (sender_before new x) (other_inserted a new xs h g.1)
  where
    by : (b : Bool) → IsOther a (inserted new xs) → IsOther a (cond b (new ∷ x ∷ xs) (x ∷ inserted new xs))
    by true rest = (h, g)
    by false rest = (g.0, rest)

other_sorted : (a : Answer) (xs : List Answer) → IsOther a xs → IsOther a (by_sender xs)
other_sorted a [] h = tt
other_sorted a (x ∷ xs) h = other_inserted a x (by_sender xs) h.0 (other_sorted a xs h.1)

pub rising_sorted : (xs : List Answer) → AreOthers xs → AreRising (by_sender xs)
rising_sorted [] h = tt
rising_sorted (x ∷ xs) h = rising_inserted x (by_sender xs) (other_sorted x xs h.0) (rising_sorted xs h.1)

-- ---- the same answers

from_inserted : (new z : Answer) (xs : List Answer) → IsIn (inserted new xs) z → IsIn (new ∷ xs) z
from_inserted new z [] h = h
from_inserted new z (x ∷ xs) h = by (sender_before new x) (from_inserted new z xs) h
  where
    by : (b : Bool) → (IsIn (inserted new xs) z → IsIn (new ∷ xs) z)
        → IsIn (cond b (new ∷ x ∷ xs) (x ∷ inserted new xs)) z → IsIn (new ∷ x ∷ xs) z
    by true rest h = h
    by false rest (inl e) = inr (inl e)
    by false rest (inr h) = elim (rest h) [ inl e ↦ inl e | inr later ↦ inr (inr later) ]

to_inserted : (new z : Answer) (xs : List Answer) → IsIn (new ∷ xs) z → IsIn (inserted new xs) z
to_inserted new z [] h = h
to_inserted new z (x ∷ xs) h = by (sender_before new x) (to_inserted new z xs) h
  where
    by : (b : Bool) → (IsIn (new ∷ xs) z → IsIn (inserted new xs) z) → IsIn (new ∷ x ∷ xs) z
        → IsIn (cond b (new ∷ x ∷ xs) (x ∷ inserted new xs)) z
    by true rest h = h
    by false rest (inl e) = inr (rest (inl e))
    by false rest (inr (inl e)) = inl e
    by false rest (inr (inr h)) = inr (rest (inr h))

pub from_sorted : (xs : List Answer) (z : Answer) → IsIn (by_sender xs) z → IsIn xs z
from_sorted [] z h = h
from_sorted (x ∷ xs) z h =
    elim (from_inserted x z (by_sender xs) h) [ inl e ↦ inl e | inr later ↦ inr (from_sorted xs z later) ]

pub to_sorted : (xs : List Answer) (z : Answer) → IsIn xs z → IsIn (by_sender xs) z
to_sorted [] z h = h
to_sorted (x ∷ xs) z (inl e) = to_inserted x z (by_sender xs) (inl e)
to_sorted (x ∷ xs) z (inr h) = to_inserted x z (by_sender xs) (inr (to_sorted xs z h))

-- ---- one order

precedes_in : (a : Answer) (xs : List Answer) (z : Answer) → Precedes a xs → IsIn xs z → sender_before a z ≡ true
precedes_in a [] z h there = absurd there
precedes_in a (x ∷ xs) z h (inl e) = subst (λ (w : Answer). sender_before a w ≡ true) e h.0
precedes_in a (x ∷ xs) z h (inr there) = precedes_in a xs z h.1 there

heads : (x y : Answer) (xs ys : List Answer) → Precedes x xs → Precedes y ys → IsIn (y ∷ ys) x → IsIn (x ∷ xs) y → x ≡ y
heads x y xs ys h g (inl e) back = sym e
heads x y xs ys h g (inr there) (inl e) = e
heads x y xs ys h g (inr there) (inr back) =
    absurd (not_both x.sender y.sender (precedes_in x xs y h back) (precedes_in y ys x g there))

-- what comes after the first of one comes after that of the other
after_heads : (x y z : Answer) (xs ys : List Answer) → x ≡ y → Precedes x xs → IsIn xs z → IsIn (y ∷ ys) z → IsIn ys z
after_heads x y z xs ys same h there (inr later) = later
after_heads x y z xs ys same h there (inl e) =
    let before : sender_before z z ≡ true =
    subst (λ (w : Answer). sender_before w z ≡ true) (same ∙ e) (precedes_in x xs z h there) in
    absurd (not_both z.sender z.sender before before)

rising_once : (xs ys : List Answer) → AreRising xs → AreRising ys → ((z : Answer) → IsIn xs z → IsIn ys z)
    → ((z : Answer) → IsIn ys z → IsIn xs z) → xs ≡ ys
rising_once [] [] h g there back = refl
rising_once [] (y ∷ ys) h g there back = absurd (back y (inl refl))
rising_once (x ∷ xs) [] h g there back = absurd (there x (inl refl))
rising_once (x ∷ xs) (y ∷ ys) h g there back =
    let same : x ≡ y = heads x y xs ys h.0 g.0 (there x (inl refl)) (back y (inl refl)) in
    ap₂ (λ (a : Answer) (l : List Answer). a ∷ l) same
    (rising_once xs ys h.1 g.1 (λ z later. after_heads x y z xs ys same h.0 later (there z (inr later)))
    (λ z later. after_heads y x z ys xs (sym same) g.0 later (back z (inr later))))

-- two lists of the same answers, each by a sender of its own, are sorted to one
pub sorted_once : (xs ys : List Answer) → AreOthers xs → AreOthers ys → ((z : Answer) → IsIn xs z → IsIn ys z)
    → ((z : Answer) → IsIn ys z → IsIn xs z) → by_sender xs ≡ by_sender ys
sorted_once xs ys h g there back =
    rising_once (by_sender xs) (by_sender ys) (rising_sorted xs h) (rising_sorted ys g)
    (λ z in_xs. to_sorted ys z (there z (from_sorted xs z in_xs))) (λ z in_ys. to_sorted xs z (back z (from_sorted ys z in_ys)))
