-- The number in a field of a record inside a transaction.
use Rattle.std.proofs.Common.{◌≡◌, ℕ, Bool, true, false, cond, Some, None, refl, ap, ◌∙◌}
use Rattle.std.specs.Prelude.{◌==◌}
use Rattle.std.specs.Option.{option_map}
use Rattle.cwr_fields.specs.declared.codes.TransactionType.{TransactionType}
use Rattle.cwr_fields.specs.declared.kinds.Kind.{Kind}
use Rattle.cwr_fields.specs.declared.kinds.Kind.TheVariants as kinds
use Rattle.cwr_shape.specs.declared.tallies.Counts.{Counts}
use Rattle.cwr_shape.specs.declared.symbols.Symbol.TheVariants.{Plain}
use Rattle.cwr_shape.specs.Format.Numbers.{number_in}
use Rattle.cwr_shape.specs.Format.NextSymbols.{is_header_of}
use Rattle.cwr_shape.specs.Format.ExpectedNumbers.{expected_numbers, expected_inside}
use Rattle.cwr_shape.specs.Steps.Counting.{number_inside}

-- of two numbers the one of the field
one_of_two : (p q : Bool) (a b : ℕ)
    → option_map (λ (f : ℕ × ℕ). f.1) (cond p (Some (2, a)) (cond q (Some (3, b)) None)) ≡ cond p (Some a) (cond q (Some b) None)
one_of_two true q a b = refl
one_of_two false true a b = refl
one_of_two false false a b = refl

-- the kind isn't one of those around transactions
abbrev pub IsInside : Kind → Type 0
IsInside kind = (kind ≡ kinds.Hdr → ⊥) × (kind ≡ kinds.Grh → ⊥) × (kind ≡ kinds.Grt → ⊥) × (kind ≡ kinds.Trl → ⊥)

number_by : (kind : Kind) (b : Bool) (c : Counts) (j : ℕ) → IsInside kind
    → number_in kind j (expected_inside b c) ≡ number_inside b c j
number_by kinds.Hdr b c j h = absurd (h.0 refl)
number_by kinds.Grh b c j h = absurd (h.1 refl)
number_by kinds.Grt b c j h = absurd (h.2 refl)
number_by kinds.Trl b c j h = absurd (h.3 refl)
number_by kind true c j h = one_of_two (2 == j) (3 == j) _ _
number_by kind false c j h = one_of_two (2 == j) (3 == j) _ _

expected_by : (ty : TransactionType) (c : Counts) (kind : Kind) → IsInside kind
    → expected_numbers ty c kind ≡ expected_inside (is_header_of ty (Plain kind)) c
expected_by ty c kinds.Hdr h = absurd (h.0 refl)
expected_by ty c kinds.Grh h = absurd (h.1 refl)
expected_by ty c kinds.Grt h = absurd (h.2 refl)
expected_by ty c kinds.Trl h = absurd (h.3 refl)
expected_by ty c kind h = refl

pub inside_number : (ty : TransactionType) (c : Counts) (kind : Kind) (j : ℕ) → IsInside kind
    → number_in kind j (expected_numbers ty c kind) ≡ number_inside (is_header_of ty (Plain kind)) c j
inside_number ty c kind j h =
    ap (number_in kind j) (expected_by ty c kind h) ∙ number_by kind (is_header_of ty (Plain kind)) c j h
