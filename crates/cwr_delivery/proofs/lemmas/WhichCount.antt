-- Of the answers of each sender just one counts, over all others of that sender.
use Rattle.std.proofs.Common.{◌≡◌, ℕ, zero, suc, ◌<◌, Bool, true, false, cond, List, [], ◌∷◌, ◌++◌, length, get_or, Some, refl, sym, ap, ◌∙◌, arith, inl, inr, subst}
use Rattle.std.specs.Prelude.{◌⊎◌, ◌↔◌, ◌||◌, ◌≢◌, fold, map, slice_get}
use Rattle.std.specs.List.{AllPairs, Contains}
use Rattle.std.specs.List.Sorted.{IsPermutation}
use Rattle.std.proofs.lemmas.Bool.{cases_order, false_from_ne_true}
use Rattle.std.proofs.lemmas.List.{get_or_default}
use Rattle.std.proofs.lemmas.List.Sorted.{Contains-permutation, IsPermutation-sym}
use Rattle.std.proofs.lemmas.Option.{get_or_from_slice_get, slice_get-get_or, slice_get_within}
use Rattle.cwr_sent.specs.Format.Answers.{Answer, counted_for, counting_ones, counts_over, same_sender, with_answer}
use Rattle.cwr_sent.proofs.lemmas.MoreLinks.{at_end}
use Rattle.cwr_delivery.specs.Format.Laws.{IsCounted}
use Rattle.cwr_delivery.proofs.lemmas.ChangedGroups.{made_of}
use Rattle.cwr_delivery.proofs.lemmas.CountingOnes.{by_sender, counted_sender, has_same, one_sender}
use Rattle.cwr_delivery.proofs.lemmas.CountsOver.{over_days, over_itself, over_on, over_other}

-- ---- one of a list, at a place

pub record IsOf (xs : List Answer) (x : Answer) : Type 0 where
  pub place : ℕ
  pub there : slice_get xs place ≡ Some x

from_contains : (xs : List Answer) (x : Answer) → Contains xs x → IsOf xs x
from_contains xs x h =
    record { place = h.0; there = slice_get-get_or xs h.0 x h.1 ∙ ap (λ (y : Answer). Some y) h.2 }

to_contains : (xs : List Answer) (x : Answer) → IsOf xs x → Contains xs x
to_contains xs x h = (h.place, slice_get_within xs h.place x h.there, get_or_from_slice_get xs h.place x x h.there)

later_of : (xs : List Answer) (x y : Answer) → IsOf xs x → IsOf (y ∷ xs) x
later_of xs x y h = record { place = suc h.place; there = h.there }

there_front : (xs : List Answer) (x y : Answer) (i : ℕ) → slice_get xs i ≡ Some x → slice_get (xs ++ y ∷ []) i ≡ Some x
there_front [] x y i h = absurd (cc h)
there_front (z ∷ xs) x y zero h = h
there_front (z ∷ xs) x y (suc i) h = there_front xs x y i h

there_last : (xs : List Answer) (y : Answer) → slice_get (xs ++ y ∷ []) (length xs) ≡ Some y
there_last [] y = refl
there_last (z ∷ xs) y = there_last xs y

there_mapped : (f : Answer → Answer) (xs : List Answer) (x : Answer) (i : ℕ) → slice_get xs i ≡ Some x
    → slice_get (map f xs) i ≡ Some (f x)
there_mapped f [] x i h = absurd (cc h)
there_mapped f (z ∷ xs) x zero h = let e : z ≡ x = cc h in ap (λ (y : Answer). Some (f y)) e
there_mapped f (z ∷ xs) x (suc i) h = there_mapped f xs x i h

-- ---- one by the same sender

pub record IsSameOf (xs : List Answer) (x : Answer) : Type 0 where
  pub one : Answer
  pub of : IsOf xs one
  pub same : same_sender one x ≡ true

same_step : (xs : List Answer) (x y : Answer) (s : Bool) → same_sender y x ≡ s → (s || has_same x xs) ≡ true
    → (has_same x xs ≡ true → IsSameOf xs x) → IsSameOf (y ∷ xs) x
same_step xs x y true is h rest = record { one = y; of = record { place = 0; there = refl }; same = is }
same_step xs x y false is h rest =
    let r = rest h in record { one = r.one; of = later_of xs r.one y r.of; same = r.same }

same_of : (xs : List Answer) (x : Answer) → has_same x xs ≡ true → IsSameOf xs x
same_of [] x h = absurd (cc h)
same_of (y ∷ xs) x h = same_step xs x y (same_sender y x) refl h (same_of xs x)

none_step : (s r : Bool) → (s || r) ≡ false → (s ≡ false) × (r ≡ false)
none_step true r h = absurd (cc h)
none_step false r h = (refl, h)

none_of : (xs : List Answer) (x y : Answer) (i : ℕ) → has_same x xs ≡ false → slice_get xs i ≡ Some y
    → same_sender y x ≡ true → ⊥
none_of [] x y i h there same = cc there
none_of (z ∷ xs) x y zero h there same =
    let e : z ≡ y = cc there in
    let n = none_step (same_sender z x) (has_same x xs) h in
    let f = ap (λ (w : Answer). same_sender w x) e in cc
none_of (z ∷ xs) x y (suc i) h there same =
    none_of xs x y i (none_step (same_sender z x) (has_same x xs) h).1 there same

-- ---- with one more

abbrev with_any : Bool → List Answer → Answer → List Answer
with_any any kept new = cond any (map (counted_for new) kept) (kept ++ new ∷ [])

either : (new old y : Answer) (s c : Bool) → cond s (cond c new old) old ≡ y → (old ≡ y) ⊎ (new ≡ y)
either new old y true true h = inr h
either new old y true false h = inl h
either new old y false c h = inl h

member_with : (kept : List Answer) (new y : Answer) (any : Bool) → IsOf (with_any any kept new) y → IsOf kept y ⊎ (new ≡ y)
member_with kept new y true h =
    let m = made_of (counted_for new) kept h.place y h.there in
    elim (either new m.0 y (same_sender m.0 new) (counts_over m.0 new) m.2) [
      | inl e ↦ inl (record { place = h.place; there = m.1 ∙ ap (λ (x : Answer). Some x) e })
      | inr e ↦ inr e
    ]
member_with kept new y false h =
    elim (at_end kept new y h.place h.there) [
      | inl old ↦ inl (record { place = h.place; there = old })
      | inr last ↦ inr last.1
    ]

member_after : (answers kept : List Answer) (y : Answer) → IsOf (fold with_answer kept answers) y → IsOf kept y ⊎ IsOf answers y
member_after [] kept y h = inl h
member_after (new ∷ answers) kept y h =
    elim (member_after answers (with_answer kept new) y h) [
      | inl k ↦ elim (member_with kept new y (has_same new kept) k) [
        | inl old ↦ inl old
        | inr e ↦ inr (record { place = 0; there = ap (λ (x : Answer). Some x) e })
      ]
      | inr a ↦ inr (later_of answers y new a)
    ]

none_empty : (y : Answer) → IsOf [] y → ⊥
none_empty y h = let e = h.there in cc

counting_of : (answers : List Answer) (y : Answer) → IsOf (counting_ones answers) y → IsOf answers y
counting_of answers y h =
    elim (member_after answers [] y h) [ inl k ↦ absurd (none_empty y k) | inr a ↦ a ]

pub counting_read : (answers : List Answer) (y : Answer) → Contains (counting_ones answers) y → Contains answers y
counting_read answers y h = to_contains answers y (counting_of answers y (from_contains (counting_ones answers) y h))

-- ---- one counts over it

pub record IsOver (xs : List Answer) (x : Answer) : Type 0 where
  pub one : Answer
  pub of : IsOf xs one
  pub same : same_sender x one ≡ true
  pub over : counts_over x one ≡ true

over_counted : (new x : Answer) (s c : Bool) → counts_over x new ≡ c → counts_over x (cond s (cond c new x) x) ≡ true
over_counted new x true true h = h
over_counted new x true false h = over_itself x
over_counted new x false c h = over_itself x

over_with : (kept : List Answer) (new x : Answer) (any : Bool) → IsOf kept x → IsOver (with_any any kept new) x
over_with kept new x true h = record {
  one = counted_for new x;
  of = record { place = h.place; there = there_mapped (counted_for new) kept x h.place h.there };
  same = by_sender x (counted_for new x) (sym (counted_sender new x));
  over = over_counted new x (same_sender x new) (counts_over x new) refl;
}
over_with kept new x false h = record {
  one = x;
  of = record { place = h.place; there = there_front kept x new h.place h.there };
  same = by_sender x x refl;
  over = over_itself x;
}

over_old : (new old : Answer) (s c : Bool) → s ≡ true → counts_over old new ≡ c
    → counts_over new (cond s (cond c new old) old) ≡ true
over_old new old false c s h = absurd (cc s)
over_old new old true true s h = over_itself new
over_old new old true false s h = over_other old new h

over_new : (kept : List Answer) (new : Answer) (any : Bool) → has_same new kept ≡ any → IsOver (with_any any kept new) new
over_new kept new true h =
    let old = same_of kept new h in
    record {
      one = counted_for new old.one;
      of = record { place = old.of.place; there = there_mapped (counted_for new) kept old.one old.of.place old.of.there };
      same = by_sender new (counted_for new old.one) (sym (one_sender old.one new old.same) ∙ sym (counted_sender new old.one));
      over = over_old new old.one (same_sender old.one new) (counts_over old.one new) old.same refl;
    }
over_new kept new false h = record {
  one = new;
  of = record { place = length kept; there = there_last kept new };
  same = by_sender new new refl;
  over = over_itself new;
}

over_both : (xs ys : List Answer) (x : Answer) (h : IsOver xs x) → IsOver ys h.one → IsOver ys x
over_both xs ys x h g = record {
  one = g.one;
  of = g.of;
  same = by_sender x g.one (one_sender x h.one h.same ∙ one_sender h.one g.one g.same);
  over = over_on x h.one g.one h.over g.over;
}

over_after : (answers kept : List Answer) (x : Answer) → IsOver kept x → IsOver (fold with_answer kept answers) x
over_after [] kept x h = h
over_after (new ∷ answers) kept x h =
    over_after answers (with_answer kept new) x
    (over_both kept (with_answer kept new) x h (over_with kept new h.one (has_same new kept) h.of))

over_read : (answers kept : List Answer) (x : Answer) (i : ℕ) → slice_get answers i ≡ Some x
    → IsOver (fold with_answer kept answers) x
over_read [] kept x i h = absurd (cc h)
over_read (new ∷ answers) kept x zero h =
    let e : new ≡ x = cc h in
    over_after answers (with_answer kept new) x
    (subst (λ (y : Answer). IsOver (with_answer kept new) y) e (over_new kept new (has_same new kept) refl))
over_read (new ∷ answers) kept x (suc i) h = over_read answers (with_answer kept new) x i h

pub each_counted : (answers : List Answer) (x : Answer) → Contains answers x → (y : Answer) × IsCounted answers x y
each_counted answers x h =
    let o = over_read answers [] x (from_contains answers x h).place (from_contains answers x h).there in
    (o.one, record { counts = to_contains (counting_ones answers) o.one o.of; same = o.same; over = o.over })

-- ---- one of each sender

abbrev AreApart : List Answer → Type 0
AreApart xs = (i j : ℕ) (x y : Answer) → slice_get xs i ≡ Some x → slice_get xs j ≡ Some y → x.sender ≡ y.sender → i ≡ j

apart_with : (kept : List Answer) (new : Answer) (any : Bool) → has_same new kept ≡ any → AreApart kept
    → AreApart (with_any any kept new)
apart_with kept new true is apart i j x y a b same =
    let p = made_of (counted_for new) kept i x a in
    let q = made_of (counted_for new) kept j y b in
    apart i j p.0 q.0 p.1 q.1
    (sym (counted_sender new p.0) ∙ ap (λ (z : Answer). z.sender) p.2 ∙ same ∙ ap (λ (z : Answer). z.sender) (sym q.2)
    ∙ counted_sender new q.0)
apart_with kept new false is apart i j x y a b same =
    elim (at_end kept new x i a) [
      | inl p ↦ elim (at_end kept new y j b) [
        | inl q ↦ apart i j x y p q same
        | inr q ↦ absurd (none_of kept new x i is p (by_sender x new (same ∙ ap (λ (z : Answer). z.sender) (sym q.1))))
      ]
      | inr p ↦ elim (at_end kept new y j b) [
        | inl q ↦ absurd (none_of kept new y j is q (by_sender y new (sym same ∙ ap (λ (z : Answer). z.sender) (sym p.1))))
        | inr q ↦ p.0 ∙ sym q.0
      ]
    ]

apart_after : (answers kept : List Answer) → AreApart kept → AreApart (fold with_answer kept answers)
apart_after [] kept h = h
apart_after (new ∷ answers) kept h =
    apart_after answers (with_answer kept new) (apart_with kept new (has_same new kept) refl h)

counting_apart : (answers : List Answer) → AreApart (counting_ones answers)
counting_apart answers = apart_after answers [] (λ i j x y a b same. absurd (cc a))

pub one_each : (answers : List Answer) → AllPairs (λ x y. same_sender x y ≡ false) (counting_ones answers)
one_each answers i j d less within =
    let xs : List Answer = counting_ones answers in
    false_from_ne_true (same_sender (get_or xs i d) (get_or xs j d)) (λ e.
    let same = counting_apart answers i j (get_or xs i d) (get_or xs j d) (slice_get-get_or xs i d (omega (arith, less, within)))
    (slice_get-get_or xs j d within) (one_sender (get_or xs i d) (get_or xs j d) e) in
    omega (arith, less, same))

-- ---- in any order

-- of two by one sender that count over each other there is just one
abbrev AreOrdered : List Answer → Type 0
AreOrdered xs = (x y : Answer) → Contains xs x → Contains xs y → same_sender x y ≡ true → counts_over x y ≡ true
    → counts_over y x ≡ true → x ≡ y

abbrev IsLess : Answer → Answer → Type 0
IsLess x y = same_sender x y ≡ true → counts_over x y ≢ counts_over y x

less_at : (xs : List Answer) (i j : ℕ) (x y : Answer) → AllPairs IsLess xs → i < j → j < length xs → get_or xs i x ≡ x
    → get_or xs j y ≡ y → IsLess x y
less_at xs i j x y pairs less within a b =
    subst (λ (z : Answer). IsLess z y) a
    (subst (λ (z : Answer). IsLess (get_or xs i x) z) (get_or_default xs j x y within ∙ b) (pairs i j x less within))

ordered : (xs : List Answer) → AllPairs IsLess xs → AreOrdered xs
ordered xs pairs x y a b same over back =
    elim (cases_order a.0 b.0) [
      | inl e ↦ sym a.2 ∙ get_or_default xs a.0 x y a.1 ∙ ap (λ (n : ℕ). get_or xs n y) e ∙ b.2
      | inr rest ↦ elim rest [
        | inl less ↦ absurd (less_at xs a.0 b.0 x y pairs less b.1 a.2 b.2 same (over ∙ sym back))
        | inr more ↦
            absurd (less_at xs b.0 a.0 y x pairs more a.1 b.2 a.2 (by_sender y x (sym (one_sender x y same))) (back ∙ sym over))
      ]
    ]

one_way : (xs ys : List Answer) → ((x : Answer) → Contains xs x → Contains ys x) → ((x : Answer) → Contains ys x → Contains xs x)
    → AreOrdered xs → (x : Answer) → Contains (counting_ones xs) x → Contains (counting_ones ys) x
one_way xs ys there back only x h =
    let read = counting_read xs x h in
    let y = each_counted ys x (there x read) in
    let of_xs = back y.0 (counting_read ys y.0 y.1.counts) in
    let z = each_counted xs y.0 of_xs in
    let p = from_contains (counting_ones xs) x h in
    let q = from_contains (counting_ones xs) z.0 z.1.counts in
    let place = counting_apart xs p.place q.place x z.0 p.there q.there
    (one_sender x y.0 y.1.same ∙ one_sender y.0 z.0 z.1.same) in
    let found : Some x ≡ Some z.0 = sym p.there ∙ ap (slice_get (counting_ones xs)) place ∙ q.there in
    let one : z.0 ≡ x = cc found in
    let same = only x y.0 read of_xs y.1.same y.1.over (ap (counts_over y.0) (sym one) ∙ z.1.over) in
    subst (λ (w : Answer). Contains (counting_ones ys) w) (sym same) y.1.counts

-- The same ones count of the same answers.
pub alike_count : (xs ys : List Answer) → ((x : Answer) → Contains xs x → Contains ys x)
    → ((x : Answer) → Contains ys x → Contains xs x)
    → AllPairs (λ x y. same_sender x y ≡ true → counts_over x y ≢ counts_over y x) xs
    → (x : Answer) → Contains (counting_ones xs) x ↔ Contains (counting_ones ys) x
alike_count xs ys there back pairs x =
    let only = ordered xs pairs in
    (one_way xs ys there back only x, one_way ys xs back there (λ v w a b. only v w (back v a) (back w b)) x)

-- on days of their own one counts over the other
pub over_on_days : (xs : List Answer) → AllPairs (λ x y. same_sender x y ≡ true → x.processed ≢ y.processed) xs
    → AllPairs (λ x y. same_sender x y ≡ true → counts_over x y ≢ counts_over y x) xs
over_on_days xs pairs =
    λ i j d less within same. over_days (get_or xs i d) (get_or xs j d) (pairs i j d less within same)

pub any_order : (xs ys : List Answer) → IsPermutation xs ys
    → AllPairs (λ x y. same_sender x y ≡ true → counts_over x y ≢ counts_over y x) xs
    → (x : Answer) → Contains (counting_ones xs) x ↔ Contains (counting_ones ys) x
any_order xs ys moved =
    alike_count xs ys (λ w h. Contains-permutation xs ys w moved h)
    (λ w h. Contains-permutation ys xs w (IsPermutation-sym xs ys moved) h)

pub any_order_of_days : (xs ys : List Answer) → IsPermutation xs ys
    → AllPairs (λ x y. same_sender x y ≡ true → x.processed ≢ y.processed) xs
    → (x : Answer) → Contains (counting_ones xs) x ↔ Contains (counting_ones ys) x
any_order_of_days xs ys moved pairs = any_order xs ys moved (over_on_days xs pairs)
