-- How a sequence goes on where the awaited number is the one that belongs there.
use Rattle.std.proofs.Common.{◌≡◌, ℕ, ◌+◌, ◌<◌, ◌≤◌, Bool, true, false, cond, true≢false, Option, Some, None, refl, sym, ap, ◌∙◌}
use Rattle.std.proofs.Common.{arith, inl, inr}
use Rattle.std.specs.Prelude.{◌⊎◌, ◌==◌, ◌||◌, nat_lt}
use Rattle.std.proofs.lemmas.Bool.{eqb-true, ltb-true}
use Rattle.cwr_lint_lines.specs.declared.following.Awaiting.{Awaiting}
use Rattle.cwr_lint_lines.specs.declared.numbers.Count.{Count}
use Rattle.cwr_lint_lines.specs.Steps.Following.{after, after_taken, after_wrong, is_number, just, one_more, passing, settled}
use Rattle.cwr_lint_lines.specs.Steps.Following.{takes, wanted}
use Rattle.cwr_lint_lines.specs.Steps.Numbers.{wanted_count}

pub same_eqb : (n m : ℕ) → n ≡ m → (n == m) ≡ true
same_eqb n m e = grind (arith, e)

-- either the number stands there, or just that one is let pass
abbrev pub Stands : Awaiting → ℕ → Option ℕ → Type 0
Stands a n x = (x ≡ Some n) ⊎ (a ≡ just n)

pub takes_expected : (a : Awaiting) (n : ℕ) → a.expected ≡ n → takes a n ≡ true
takes_expected a n e =
    ap (λ (b : Bool). (((b || is_number a.first n) || is_number a.second n) || is_number a.third n) || is_number a.fourth n)
    (same_eqb n a.expected (sym e))

-- ---- the number that belongs there

pub wanted_none : (a : Awaiting) (n : ℕ) (x : Option ℕ) → a.expected ≡ n → x ≡ Some n → wanted a x ≡ None
wanted_none a n x e is = ap (wanted a) is ∙ ap (λ (b : Bool). cond b None (Some a.expected)) (takes_expected a n e)

pub settled_is : (a : Awaiting) (n : ℕ) (x : Option ℕ) → a.expected ≡ n → Stands a n x → settled a x ≡ n
settled_is a n x e (inl is) = ap (settled a) is ∙ ap (λ (b : Bool). cond b n a.expected) (takes_expected a n e)
settled_is a n None e (inr only) = e
settled_is a n (Some m) e (inr only) = ap (λ (b : Awaiting). settled b (Some m)) only ∙ by (takes (just n) m) refl
  where
    by : (b : Bool) → takes (just n) m ≡ b → cond b m n ≡ n
    by true t = same_of (m == n) refl t
      where
        same_of : (c : Bool) → (m == n) ≡ c → (((c || false) || false) || false) || false ≡ true → m ≡ n
        same_of true p q = eqb-true m n p
        same_of false p q = absurd (true≢false (sym q))
    by false t = refl

-- after it the next one is awaited
pub after_is : (a : Awaiting) (n : ℕ) (x : Option ℕ) → a.expected ≡ n → n ≤ 9999999999 → Stands a n x
    → (after a x).expected ≡ n + 1
after_is a n x e small (inl is) = ap (λ (y : Option ℕ). (after a y).expected) is ∙ by (takes a n) (takes_expected a n e)
  where
    on : (b : Bool) → nat_lt n a.expected ≡ b
        → (cond b (passing (just (one_more n)) (one_more a.expected)) (just (one_more n))).expected ≡ n + 1
    on true t = let no : n < a.expected = ltb-true n a.expected t in absurd (omega (arith, no, e))
    on false t = omega (arith, small)

    by : (b : Bool) → b ≡ true → (cond b (after_taken a n) (after_wrong a n)).expected ≡ n + 1
    by true t = on (nat_lt n a.expected) refl
    by false t = absurd (true≢false (sym t))
after_is a n None e small (inr only) = omega (arith, e, small)
after_is a n (Some m) e small (inr only) = ap (λ (b : Awaiting). (after b (Some m)).expected) only ∙ by (takes (just n) m) refl
  where
    one : (((((m == n) || false) || false) || false) || false) ≡ true → m ≡ n
    one q = same_of (m == n) refl q
      where
        same_of : (c : Bool) → (m == n) ≡ c → (((c || false) || false) || false) || false ≡ true → m ≡ n
        same_of true p q = eqb-true m n p
        same_of false p q = absurd (true≢false (sym q))

    on : (b : Bool) → nat_lt m n ≡ b → m ≡ n
        → (cond b (passing (just (one_more m)) (one_more n)) (just (one_more m))).expected ≡ n + 1
    on true t same = let no : m < n = ltb-true m n t in absurd (omega (arith, no, same))
    on false t same = omega (arith, small, same)

    by : (b : Bool) → takes (just n) m ≡ b → (cond b (after_taken (just n) m) (after_wrong (just n) m)).expected ≡ n + 1
    by true t = on (nat_lt m n) refl (one t)
    by false t = omega (arith, small)

-- whatever stands there, the awaited number is one more
pub passing_is : (a : Awaiting) (m : ℕ) → (passing a m).expected ≡ a.expected
passing_is a m = refl

-- ---- counts

pub counted_none : (c : Count) (n : ℕ) (x : Option ℕ) → c.there ≡ n → x ≡ Some n → wanted_count c x ≡ None
counted_none c n x e is = ap (wanted_count c) is ∙ by c.by_numbers
  where
    same : (n == c.there) ≡ true
    same = same_eqb n c.there (sym e)

    by : (o : Option ℕ) → wanted_count (record { there = c.there; by_numbers = o; in_file = c.in_file }) (Some n) ≡ None
    by None = refl
    by (Some m) = ap (λ (b : Bool). cond ((b || (n == m)) || (n == c.in_file)) None (Some m)) same
