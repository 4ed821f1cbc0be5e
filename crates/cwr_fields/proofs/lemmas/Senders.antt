-- The cells of sender types: codes, or two digits.
use Rattle.std.proofs.Common.{◌≡◌, ℕ, ◌+◌, ◌/◌, ◌%◌, ◌^◌, ◌<◌, Bool, true, List, [], ◌∷◌, ◌++◌, length, ap₂, None, is_some, sym}
use Rattle.std.proofs.Common.{ap, ◌∙◌, subst, inl, inr, arith, true≢false}
use Rattle.std.specs.Prelude.{◌↔◌, IsTrue}
use Rattle.std.specs.Fmt.{decimal}
use Rattle.std.proofs.lemmas.Fmt.{decimal_digit}
use Rattle.cwr_fields.specs.declared.tables.Table.TheVariants as tables
use Rattle.cwr_fields.specs.declared.numbers.Number.{Number}
use Rattle.cwr_fields.specs.declared.sender_types.SenderType.{SenderType}
use Rattle.cwr_fields.specs.declared.sender_types.SenderType.TheVariants.{Digits}
use Rattle.cwr_fields.specs.Format.Bytes.{digits, number_of, are_digits}
use Rattle.cwr_fields.specs.Format.Cells.{SpellsCode}
use Rattle.cwr_fields.specs.Format.Members.{member_with}
use Rattle.cwr_fields.specs.Format.SenderCodes.{sender_text, senders}
use Rattle.cwr_fields.proofs.lemmas.Members.{found_where_code}
use Rattle.cwr_fields.proofs.lemmas.Spellings.{are_digits-digits, digits-number_of, number_of-fits}

-- two digits
two_digits : (cell : List ℕ) → length cell ≡ 2 → are_digits cell ≡ true → (n : ℕ) × (n < 100) × (cell ≡ digits 2 n)
two_digits cell wide h = (
  number_of cell,
  subst (λ (w : ℕ). number_of cell < 10 ^ w) wide (number_of-fits cell h),
  sym (subst (λ (w : ℕ). digits w (number_of cell) ≡ cell) wide (digits-number_of cell h)),
)

-- a cell that is no code of a sender type is one where it is digits
unless_named : (cell : List ℕ) (test : Bool) → member_with sender_text senders 2 cell ≡ None
    → (are_digits cell ≡ true → test ≡ true) → SpellsCode tables.Sender cell → test ≡ true
unless_named cell test none f (inl m) =
    absurd (true≢false (sym ((found_where_code sender_text senders 2 cell).1 m) ∙ ap is_some none))
unless_named cell test none f (inr d) = f (subst (λ (c : List ℕ). are_digits c ≡ true) (sym d.2) (are_digits-digits 2 d.0))

pub digits_sender : (cell : List ℕ) (test : Bool) → length cell ≡ 2 → member_with sender_text senders 2 cell ≡ None
    → (IsTrue test ↔ IsTrue (are_digits cell)) → IsTrue test ↔ ((length cell ≡ 2) × SpellsCode tables.Sender cell)
digits_sender cell test wide none t = (λ h. (wide, inr (two_digits cell wide (t.0 h))), λ p. unless_named cell test none t.1 p.1)

-- two digits, printed one after the other
pub digits_shown : (n : ℕ) → n < 100 → decimal (n / 10) ++ decimal (n % 10) ≡ digits 2 n
unfolding digits
digits_shown n small =
    let tens : n / 10 ≡ n / 10 % 10 = omega arith in
    ap₂ (λ (xs ys : List ℕ). xs ++ ys) (decimal_digit (n / 10) (omega arith)) (decimal_digit (n % 10) (omega arith))
    ∙ ap (λ x. (48 + x) ∷ (48 + n % 10) ∷ []) tens

-- so a sender's two digits are printed as they stand in its cell
pub sender_shown : (x : SenderType) (d : Number 2) (m n : ℕ) → m ≡ d.value → n ≡ d.value → x ≡ Digits d
    → decimal (m / 10) ++ decimal (n % 10) ≡ sender_text x
sender_shown x d m n p q e =
    ap₂ (λ (a b : ℕ). decimal (a / 10) ++ decimal (b % 10)) p q ∙ digits_shown d.value d.small ∙ ap sender_text (sym e)
