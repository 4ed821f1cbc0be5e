-- What holds of the cells of sender types.
use Rattle.std.proofs.Common.{◌≡◌, ℕ, ◌+◌, ◌/◌, ◌%◌, ◌^◌, ◌≤◌, ◌<◌, List, length, Some, refl, sym, ap, arith, inl, inr, lit<}
use Rattle.std.proofs.Common.{lit≤}
use Rattle.std.specs.Prelude.{slice_index}
use mathlib.Core.HLevel.{is_prop→PathP}
use Rattle.std.specs.Coded.{le_prop}
use Rattle.cwr_fields.specs.declared.cell_types.CellType.TheVariants.{Code}
use Rattle.cwr_fields.specs.declared.tables.Table.TheVariants as tables
use Rattle.cwr_fields.specs.declared.numbers.Number.{Number}
use Rattle.cwr_fields.specs.declared.sender_types.SenderType.{SenderType}
use Rattle.cwr_fields.specs.declared.sender_types.SenderType.TheVariants.{Publisher, Society, AdministrativeAgency, Writer}
use Rattle.cwr_fields.specs.declared.sender_types.SenderType.TheVariants.{Digits}
use Rattle.cwr_fields.specs.Format.Bytes.{digits}
use Rattle.cwr_fields.specs.Format.Cells.{Allows}
use Rattle.cwr_fields.specs.Format.NumberLaws.{number_equal}
use Rattle.cwr_fields.specs.Format.Members.{member_with}
use Rattle.cwr_fields.specs.Format.SenderCodes.{sender_text, senders}

pub sender_width : (x : SenderType) → length (sender_text x) ≡ 2
unfolding digits
sender_width Publisher = refl
sender_width Society = refl
sender_width AdministrativeAgency = refl
sender_width Writer = refl
sender_width (Digits d) = refl

pub sender_fits : (x : SenderType) → Allows (Code tables.Sender) (sender_text x)
sender_fits Publisher = inl (sender_text Publisher, (0, (lit< tt, refl)), refl)
sender_fits Society = inl (sender_text Society, (1, (lit< tt, refl)), refl)
sender_fits AdministrativeAgency = inl (sender_text AdministrativeAgency, (2, (lit< tt, refl)), refl)
sender_fits Writer = inl (sender_text Writer, (3, (lit< tt, refl)), refl)
sender_fits (Digits d) = inr (d.value, d.small, refl)

-- numbers of two digits with the same value are the same
same_number : (d e : Number 2) → d.value ≡ e.value → d ≡ e
same_number d e same =
    λ i. record {
      value = same i;
      wide = le_prop d.wide e.wide i;
      small = is_prop→PathP (λ j. same j < 10 ^ 2) (λ j. le_prop) d.small e.small i;
    }

-- two digits write one number
same_digits : (d e : Number 2) → digits 2 d.value ≡ digits 2 e.value → d ≡ e
same_digits d e p = same_number d e (number_equal 2 d.value e.value d.small e.small p)

-- and no code
no_code : (n : ℕ) (text : List ℕ) → 58 ≤ slice_index text 0 → digits 2 n ≡ text → ⊥
unfolding digits
no_code n text h p =
    let first : 48 + n / 10 % 10 ≡ slice_index text 0 = ap (λ (cell : List ℕ). slice_index cell 0) p in omega arith

pub sender_equal : (x y : SenderType) → sender_text x ≡ sender_text y → x ≡ y
sender_equal (Digits d) (Digits e) p = ap Digits (same_digits d e p)
sender_equal (Digits d) y p = absurd (no_code d.value (sender_text y) (lit≤ tt) p)
sender_equal x (Digits e) p = absurd (no_code e.value (sender_text x) (lit≤ tt) (sym p))
sender_equal x y p = let both : Some x ≡ Some y = ap (member_with sender_text senders 2) p in cc
