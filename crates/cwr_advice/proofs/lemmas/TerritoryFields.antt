-- The fields of territories that the rules of advice read.
use Rattle.std.proofs.Common.{◌≡◌, ℕ, Bool, true, false, List, refl, sym, ap, subst, ◌∙◌}
use Rattle.std.specs.Prelude.{◌||◌}
use Rattle.cwr_fields.specs.declared.kinds.Kind.TheVariants as kinds
use Rattle.cwr_lines.specs.Format.Records.{RecordValue, IsRecord, cell_named}
use Rattle.cwr_findings.specs.Format.Fields.{IsField}
use Rattle.cwr_findings.specs.Format.Findings.{is_a}
use Rattle.cwr_findings.proofs.lemmas.KindTests.{kind_of}
use Rattle.cwr_findings.proofs.lemmas.NamedCells.{named_cell}
use Rattle.cwr_findings.proofs.lemmas.RuleTests.{cell_of_field}
use Rattle.cwr_advice.specs.Format.Rules.{is_territory}
use Rattle.cwr_advice.specs.Steps.Facts.{HasCollectionFrom}

-- a territory that is none of a publisher is one of a writer
pub of_writer : (r : RecordValue) → is_territory r ≡ true → is_a kinds.Spt r ≡ false → r.kind ≡ kinds.Swt
of_writer r h e = kind_of kinds.Swt r (sym (ap (λ (b : Bool). b || is_a kinds.Swt r) e) ∙ h)

code_of_spt : IsField "tis code" kinds.Spt 10 4
code_of_spt = record { carried = refl; place = refl; width = refl }

code_of_swt : IsField "tis code" kinds.Swt 9 4
code_of_swt = record { carried = refl; place = refl; width = refl }

sign_of_spt : IsField "inclusion exclusion" kinds.Spt 9 1
sign_of_spt = record { carried = refl; place = refl; width = refl }

sign_of_swt : IsField "inclusion exclusion" kinds.Swt 8 1
sign_of_swt = record { carried = refl; place = refl; width = refl }

collection_of_spt : HasCollectionFrom kinds.Spt 6
collection_of_spt = record {
  performing = record { carried = refl; place = refl; width = refl };
  mechanical = record { carried = refl; place = refl; width = refl };
  synchronization = record { carried = refl; place = refl; width = refl };
}

collection_of_swt : HasCollectionFrom kinds.Swt 5
collection_of_swt = record {
  performing = record { carried = refl; place = refl; width = refl };
  mechanical = record { carried = refl; place = refl; width = refl };
  synchronization = record { carried = refl; place = refl; width = refl };
}

pub code_of_publisher : (r : RecordValue) (cell : List ℕ) → cell ≡ cell_of_field r 10 → is_a kinds.Spt r ≡ true → IsRecord r
    → cell ≡ cell_named "tis code" r
code_of_publisher r cell e h fits = e ∙ named_cell "tis code" kinds.Spt 10 4 r code_of_spt (kind_of kinds.Spt r h) fits

pub code_of_writer : (r : RecordValue) (cell : List ℕ) → cell ≡ cell_of_field r 9 → is_territory r ≡ true
    → is_a kinds.Spt r ≡ false → IsRecord r → cell ≡ cell_named "tis code" r
code_of_writer r cell e h other fits = e ∙ named_cell "tis code" kinds.Swt 9 4 r code_of_swt (of_writer r h other) fits

pub sign_of_publisher : (r : RecordValue) (cell : List ℕ) → cell ≡ cell_of_field r 9 → is_a kinds.Spt r ≡ true → IsRecord r
    → cell ≡ cell_named "inclusion exclusion" r
sign_of_publisher r cell e h fits = e ∙ named_cell "inclusion exclusion" kinds.Spt 9 1 r sign_of_spt (kind_of kinds.Spt r h) fits

pub sign_of_writer : (r : RecordValue) (cell : List ℕ) → cell ≡ cell_of_field r 8 → is_territory r ≡ true
    → is_a kinds.Spt r ≡ false → IsRecord r → cell ≡ cell_named "inclusion exclusion" r
sign_of_writer r cell e h other fits = e ∙ named_cell "inclusion exclusion" kinds.Swt 8 1 r sign_of_swt (of_writer r h other) fits

pub collection_of_publisher : (r : RecordValue) → is_a kinds.Spt r ≡ true → HasCollectionFrom r.kind 6
collection_of_publisher r h = subst (λ k. HasCollectionFrom k 6) (sym (kind_of kinds.Spt r h)) collection_of_spt

pub collection_of_writer : (r : RecordValue) → is_territory r ≡ true → is_a kinds.Spt r ≡ false → HasCollectionFrom r.kind 5
collection_of_writer r h other = subst (λ k. HasCollectionFrom k 5) (sym (of_writer r h other)) collection_of_swt
