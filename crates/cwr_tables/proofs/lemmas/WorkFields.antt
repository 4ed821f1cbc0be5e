-- The fields that a work's row shows, in the kinds that carry them.
use Rattle.std.proofs.Common.{◌≡◌, Bool, true, false, refl, sym, subst, inl, inr}
use Rattle.std.specs.Prelude.{◌⊎◌, ◌||◌}
use Rattle.cwr_fields.specs.declared.kinds.Kind.{Kind}
use Rattle.cwr_fields.specs.declared.kinds.Kind.TheVariants as kinds
use Rattle.cwr_lines.specs.Format.Records.{RecordValue}
use Rattle.cwr_findings.specs.Format.Fields.{HasSharesFrom, IsField}
use Rattle.cwr_findings.specs.Format.Findings.{is_a}
use Rattle.cwr_findings.proofs.lemmas.KindTests.{kind_of}
use Rattle.cwr_findings.proofs.lemmas.RuleFields.{shares_of_opu, shares_of_owr, shares_of_spu, shares_of_swr}
use Rattle.cwr_tables.specs.declared.works.Side.TheVariants.{Publishers, Writers}
use Rattle.cwr_tables.specs.Format.WorkTables.{is_header, is_on}

either : (a b : Bool) → (a || b) ≡ true → (a ≡ true) ⊎ (b ≡ true)
either true b h = inl refl
either false b h = inr h

-- what two kinds have, a record has that is of one of them
of_either : (P : Kind → Type 0) (one two : Kind) (r : RecordValue) → (is_a one r || is_a two r) ≡ true → P one → P two → P r.kind
of_either P one two r h p q = elim (either (is_a one r) (is_a two r) h) [
  | inl e ↦ subst P (sym (kind_of one r e)) p
  | inr e ↦ subst P (sym (kind_of two r e)) q
]

pub shares_of_writer : (r : RecordValue) → is_on Writers r ≡ true → HasSharesFrom r.kind 12
shares_of_writer r h = of_either (λ k. HasSharesFrom k 12) kinds.Swr kinds.Owr r h shares_of_swr shares_of_owr

pub shares_of_publisher : (r : RecordValue) → is_on Publishers r ≡ true → HasSharesFrom r.kind 13
shares_of_publisher r h = of_either (λ k. HasSharesFrom k 13) kinds.Spu kinds.Opu r h shares_of_spu shares_of_opu

pub last_name : (r : RecordValue) → is_on Writers r ≡ true → IsField "last name" r.kind 5 45
last_name r h =
    of_either (λ k. IsField "last name" k 5 45) kinds.Swr kinds.Owr r h (record { carried = refl; place = refl; width = refl })
    (record { carried = refl; place = refl; width = refl })

pub first_name : (r : RecordValue) → is_on Writers r ≡ true → IsField "first name" r.kind 6 30
first_name r h =
    of_either (λ k. IsField "first name" k 6 30) kinds.Swr kinds.Owr r h (record { carried = refl; place = refl; width = refl })
    (record { carried = refl; place = refl; width = refl })

pub publisher_name : (r : RecordValue) → is_on Publishers r ≡ true → IsField "publisher name" r.kind 6 45
publisher_name r h =
    of_either (λ k. IsField "publisher name" k 6 45) kinds.Spu kinds.Opu r h
    (record { carried = refl; place = refl; width = refl }) (record { carried = refl; place = refl; width = refl })

pub title : (r : RecordValue) → is_header r ≡ true → IsField "title" r.kind 4 60
title r h =
    of_either (λ k. IsField "title" k 4 60) kinds.Nwr kinds.Rev r h (record { carried = refl; place = refl; width = refl })
    (record { carried = refl; place = refl; width = refl })

pub work_number : (r : RecordValue) → is_header r ≡ true → IsField "submitter work number" r.kind 6 14
work_number r h =
    of_either (λ k. IsField "submitter work number" k 6 14) kinds.Nwr kinds.Rev r h
    (record { carried = refl; place = refl; width = refl }) (record { carried = refl; place = refl; width = refl })

pub iswc : (r : RecordValue) → is_header r ≡ true → IsField "iswc" r.kind 7 11
iswc r h =
    of_either (λ k. IsField "iswc" k 7 11) kinds.Nwr kinds.Rev r h (record { carried = refl; place = refl; width = refl })
    (record { carried = refl; place = refl; width = refl })
