-- What the test of a record's kind says.
use Rattle.std.proofs.Common.{◌≡◌, Bool, true, false, ap, refl}
use Rattle.std.proofs.lemmas.Slice.Eq.{bytes_eq-Decides}
use Rattle.cwr_fields.specs.declared.kinds.Kind.{Kind}
use Rattle.cwr_fields.specs.Format.Kinds.{letters}
use Rattle.cwr_lines.specs.Format.Records.{RecordValue}
use Rattle.cwr_fields.proofs.lemmas.AllKinds.{letters-injective}
use Rattle.cwr_findings.specs.Format.Findings.{is_a}

pub kind_of : (kind : Kind) (r : RecordValue) → is_a kind r ≡ true → r.kind ≡ kind
kind_of kind r e = letters-injective r.kind kind ((bytes_eq-Decides (letters r.kind) (letters kind)).0 e)

pub is_of_kind : (kind : Kind) (r : RecordValue) → r.kind ≡ kind → is_a kind r ≡ true
is_of_kind kind r e = (bytes_eq-Decides (letters r.kind) (letters kind)).1 (ap letters e)

pub is_of_no_kind : (kind : Kind) (r : RecordValue) → (r.kind ≡ kind → ⊥) → is_a kind r ≡ false
is_of_no_kind kind r h = by (is_a kind r) refl
  where
    by : (b : Bool) → is_a kind r ≡ b → is_a kind r ≡ false
    by true e = absurd (h (kind_of kind r e))
    by false e = e
