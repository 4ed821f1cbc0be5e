-- What makes a test false.
use Rattle.std.proofs.Common.{◌≡◌, ℕ, Bool, true, false, not, refl}
use Rattle.std.specs.Prelude.{◌&&◌, ◌==◌}
use Rattle.std.proofs.lemmas.Bool.{eqb-true}

pub not_true : (b : Bool) → not b ≡ true → b ≡ false
not_true true h = absurd (cc h)
not_true false h = refl

pub not_false : (b : Bool) → not b ≡ false → b ≡ true
not_false true h = refl
not_false false h = absurd (cc h)

pub and_false : (a b : Bool) → b ≡ false → (a && b) ≡ false
and_false true b h = h
and_false false b h = refl

pub and_left : (a b : Bool) → a ≡ false → (a && b) ≡ false
and_left true b h = absurd (cc h)
and_left false b h = refl

pub middle_false : (w a x : Bool) → a ≡ false → (w && a && x) ≡ false
middle_false true a x h = rw h refl
middle_false false a x h = refl

-- what is asked of the first record alone
pub at_header : (k : ℕ) (w b : Bool) → (k ≡ 0 → b ≡ false) → (w && (k == 0) && b) ≡ false
at_header k w b h = by w (k == 0) refl
  where
    by : (w z : Bool) → (k == 0) ≡ z → (w && z && b) ≡ false
    by false z e = refl
    by true false e = refl
    by true true e = h (eqb-true k 0 e)
