-- The first field that shows lost blanks, one field more at a time.
use Rattle.std.proofs.Common.{◌≡◌, ℕ, zero, suc, ◌+◌, ◌-◌, ◌≤◌, List, refl, sym, ap, subst, ◌∙◌, arith, add-one}
use Rattle.std.specs.Prelude.{Option, None, Some}
use Rattle.std.specs.Option.{option_or}
use Rattle.cwr_fields.specs.declared.kinds.Kind.{Kind}
use Rattle.cwr_fields.specs.Format.Layouts.{FieldLayout, field_with_start}
use Rattle.cwr_causes.specs.declared.shifts.Sign.{Sign}
use Rattle.cwr_causes.specs.Format.Shifts.{first_sign, sign_of}

module _ (kind : Kind) (line : List ℕ) where
  -- of no field there is none
  pub first_of_none : first_sign kind line 0 ≡ None
  unfolding first_sign
  first_of_none = refl

  one_more : (n : ℕ) → first_sign kind line (suc n) ≡ option_or (first_sign kind line n) (sign_of line (field_with_start kind (suc n)))
  unfolding first_sign
  one_more n = refl

  -- behind fields that show none, it is what the next one shows
  pub first_of_more : (n : ℕ) → first_sign kind line n ≡ None
      → first_sign kind line (n + 1) ≡ sign_of line (field_with_start kind (n + 1))
  first_of_more n e =
      ap (λ (k : ℕ). first_sign kind line k) (add-one n)
      ∙ one_more n
      ∙ ap (λ (o : Option ((f : ℕ × FieldLayout) × Sign)). option_or o (sign_of line (field_with_start kind (suc n)))) e
      ∙ ap (λ (k : ℕ). sign_of line (field_with_start kind k)) (sym (add-one n))

  stays : (x : (f : ℕ × FieldLayout) × Sign) (n d : ℕ) → first_sign kind line n ≡ Some x → first_sign kind line (d + n) ≡ Some x
  stays x n zero e = subst (λ (k : ℕ). first_sign kind line k ≡ Some x) (omega arith) e
  stays x n (suc d) e =
      ap (λ (k : ℕ). first_sign kind line k) (omega arith)
      ∙ one_more (d + n)
      ∙ ap (λ (o : Option ((f : ℕ × FieldLayout) × Sign)). option_or o (sign_of line (field_with_start kind (suc (d + n)))))
      (stays x n d e)

  -- one that was found stays the first
  pub first_found : (x : (f : ℕ × FieldLayout) × Sign) (n m : ℕ) → n ≤ m → first_sign kind line n ≡ Some x
      → first_sign kind line m ≡ Some x
  first_found x n m h e = subst (λ (k : ℕ). first_sign kind line k ≡ Some x) (omega arith) (stays x n (m - n) e)
