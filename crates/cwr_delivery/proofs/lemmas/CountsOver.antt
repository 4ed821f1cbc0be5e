-- That one answer counts over another is an order: each counts over itself, of two one counts over the other, and it goes on.
use Rattle.std.proofs.Common.{◌≡◌, ℕ, ◌<◌, ◌≤◌, Bool, true, false, cond, refl, sym, ap, ◌∙◌, arith, inl, inr}
use Rattle.std.specs.Prelude.{◌⊎◌, ◌&&◌, ◌==◌, not, nat_lt}
use Rattle.std.proofs.lemmas.Bool.{eq-eqb, eqb-false, eqb-true, le-ltb, lt-ltb, ltb-false, ltb-true, ne_eqb}
use Rattle.cwr_sent.specs.declared.created.Created.{Created}
use Rattle.cwr_sent.specs.Format.Answers.{Answer, counts_over, counts_same_day, is_before, is_pending}

-- ---- when they were created

abbrev NotBefore : Created → Created → Type 0
NotBefore a b = (b.date < a.date) ⊎ ((a.date ≡ b.date) × (b.time ≤ a.time))

apart_less : (a b : ℕ) → b ≤ a → (a ≡ b → ⊥) → b < a
apart_less a b h apart = omega (arith, h, apart)

not_before_by : (a b : Created) (e : Bool) → (a.date == b.date) ≡ e
    → cond e (nat_lt a.time b.time) (nat_lt a.date b.date) ≡ false → NotBefore a b
not_before_by a b true e h = inr (eqb-true a.date b.date e, ltb-false a.time b.time h)
not_before_by a b false e h = inl (apart_less a.date b.date (ltb-false a.date b.date h) (eqb-false a.date b.date e))

not_before : (a b : Created) → is_before a b ≡ false → NotBefore a b
not_before a b h = not_before_by a b (a.date == b.date) refl h

from_not_before : (a b : Created) → NotBefore a b → is_before a b ≡ false
from_not_before a b (inl h) =
    ap (λ (e : Bool). cond e (nat_lt a.time b.time) (nat_lt a.date b.date))
    (ne_eqb a.date b.date (λ e. omega (arith, e, h)))
    ∙ le-ltb a.date b.date (omega (arith, h))
from_not_before a b (inr h) =
    ap (λ (e : Bool). cond e (nat_lt a.time b.time) (nat_lt a.date b.date)) (eq-eqb a.date b.date h.0)
    ∙ le-ltb a.time b.time h.1

before_by : (a b : Created) (e : Bool) → (a.date == b.date) ≡ e
    → cond e (nat_lt a.time b.time) (nat_lt a.date b.date) ≡ true → NotBefore b a
before_by a b true e h =
    let same = eqb-true a.date b.date e in
    let less = ltb-true a.time b.time h in
    inr (sym same, omega (arith, less))
before_by a b false e h = inl (ltb-true a.date b.date h)

-- of two one isn't before the other
one_not_before : (a b : Created) → is_before a b ≡ true → is_before b a ≡ false
one_not_before a b h = from_not_before b a (before_by a b (a.date == b.date) refl h)

later_on : (a b c : Created) → NotBefore b a → NotBefore c b → NotBefore c a
later_on a b c (inl h) (inl g) = inl (omega (arith, h, g))
later_on a b c (inl h) (inr g) = inl (omega (arith, h, g.0))
later_on a b c (inr h) (inl g) = inl (omega (arith, h.0, g))
later_on a b c (inr h) (inr g) = inr (omega (arith, h.0, g.0), omega (arith, h.1, g.1))

not_before_on : (a b c : Created) → is_before b a ≡ false → is_before c b ≡ false → is_before c a ≡ false
not_before_on a b c h g = from_not_before c a (later_on a b c (not_before b a h) (not_before c b g))

-- ---- on one day

abbrev same_day : Bool → Bool → Bool → Bool
same_day old new before = cond old (not (new && before)) (not new && not before)

day_itself : (p b : Bool) → b ≡ false → same_day p p b ≡ true
day_itself true true h = absurd (cc h)
day_itself true false h = refl
day_itself false true h = absurd (cc h)
day_itself false false h = refl

day_other : (p q b e : Bool) → (b ≡ true → e ≡ false) → same_day p q b ≡ false → same_day q p e ≡ true
day_other true true true e next h = ap not (next refl)
day_other true true false e next h = absurd (cc h)
day_other true false b e next h = absurd (cc h)
day_other false true b e next h = refl
day_other false false true e next h = ap not (next refl)
day_other false false false e next h = absurd (cc h)

day_on : (p q r b c d : Bool) → (b ≡ false → c ≡ false → d ≡ false) → same_day p q b ≡ true → same_day q r c ≡ true
    → same_day p r d ≡ true
day_on true q false b c d next h g = refl
day_on true true true true c d next h g = absurd (cc h)
day_on true true true false true d next h g = absurd (cc g)
day_on true true true false false d next h g = ap not (next refl refl)
day_on true false true b c d next h g = absurd (cc g)
day_on false true r b c d next h g = absurd (cc h)
day_on false false true b c d next h g = absurd (cc g)
day_on false false false true c d next h g = absurd (cc h)
day_on false false false false true d next h g = absurd (cc g)
day_on false false false false false d next h g = ap not (next refl refl)

-- ---- on all days

abbrev by_day : Answer → Answer → Bool → Bool
by_day x y e = cond e (counts_same_day x y) (nat_lt x.processed y.processed)

abbrev Later : Answer → Answer → Type 0
Later x y = (x.processed < y.processed) ⊎ ((x.processed ≡ y.processed) × (counts_same_day x y ≡ true))

later_by : (x y : Answer) (e : Bool) → (x.processed == y.processed) ≡ e → by_day x y e ≡ true → Later x y
later_by x y true e h = inr (eqb-true x.processed y.processed e, h)
later_by x y false e h = inl (ltb-true x.processed y.processed h)

later : (x y : Answer) → counts_over x y ≡ true → Later x y
later x y h = later_by x y (x.processed == y.processed) refl h

from_later : (x y : Answer) → Later x y → counts_over x y ≡ true
from_later x y (inl h) =
    ap (by_day x y) (ne_eqb x.processed y.processed (λ e. omega (arith, e, h))) ∙ lt-ltb x.processed y.processed h
from_later x y (inr h) = ap (by_day x y) (eq-eqb x.processed y.processed h.0) ∙ h.1

-- where one was processed no earlier, and the other one doesn't count over it there
other_by : (x y : Answer) (e : Bool) → (x.processed == y.processed) ≡ e → by_day x y e ≡ false → Later y x
other_by x y true e h =
    inr (
      sym (eqb-true x.processed y.processed e),
      day_other (is_pending x.status) (is_pending y.status) (is_before y.created x.created) (is_before x.created y.created)
          (one_not_before y.created x.created) h,
    )
other_by x y false e h =
    inl (apart_less x.processed y.processed (ltb-false x.processed y.processed h) (eqb-false x.processed y.processed e))

later_again : (x y z : Answer) → Later x y → Later y z → Later x z
later_again x y z (inl h) (inl g) = inl (omega (arith, h, g))
later_again x y z (inl h) (inr g) = inl (omega (arith, h, g.0))
later_again x y z (inr h) (inl g) = inl (omega (arith, h.0, g))
later_again x y z (inr h) (inr g) =
    inr (
      h.0 ∙ g.0,
      day_on (is_pending x.status) (is_pending y.status) (is_pending z.status) (is_before y.created x.created)
          (is_before z.created y.created) (is_before z.created x.created) (not_before_on x.created y.created z.created) h.1 g.1,
    )

pub over_itself : (x : Answer) → counts_over x x ≡ true
over_itself x =
    from_later x x (inr (
      refl,
      day_itself (is_pending x.status) (is_before x.created x.created)
          (from_not_before x.created x.created (inr (refl, omega arith))),
    ))

pub over_other : (x y : Answer) → counts_over x y ≡ false → counts_over y x ≡ true
over_other x y h = from_later y x (other_by x y (x.processed == y.processed) refl h)

pub over_on : (x y z : Answer) → counts_over x y ≡ true → counts_over y z ≡ true → counts_over x z ≡ true
over_on x y z h g = from_later x z (later_again x y z (later x y h) (later y z g))

-- on different days just one of two counts over the other
pub over_days : (x y : Answer) → (x.processed ≡ y.processed → ⊥) → counts_over x y ≡ counts_over y x → ⊥
over_days x y apart same = by (counts_over x y) refl
  where
    both : Later x y → Later y x → ⊥
    both (inl h) (inl g) = omega (arith, h, g)
    both (inl h) (inr g) = omega (arith, h, g.0)
    both (inr h) g = apart h.0

    by : (b : Bool) → counts_over x y ≡ b → ⊥
    by true e = both (later x y e) (later y x (sym same ∙ e))
    by false e = let o = over_other x y e in let f = sym same ∙ e in cc
