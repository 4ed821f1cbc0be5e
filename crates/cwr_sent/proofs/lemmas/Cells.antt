-- The cells of headers.
use Rattle.std.proofs.Common.{◌≡◌, Bool, true, false, refl, sym, subst, inl, inr}
use Rattle.std.specs.Prelude.{◌⊎◌, ◌||◌}
use Rattle.cwr_fields.specs.declared.kinds.Kind.{Kind}
use Rattle.cwr_fields.specs.declared.kinds.Kind.TheVariants as kinds
use Rattle.cwr_lines.specs.Format.Records.{RecordValue}
use Rattle.cwr_findings.specs.Format.Fields.{IsField}
use Rattle.cwr_findings.specs.Format.Findings.{is_a}
use Rattle.cwr_findings.proofs.lemmas.KindTests.{kind_of}
use Rattle.cwr_sent.specs.Format.SentFacts.{is_work_header}

either : (a b : Bool) → (a || b) ≡ true → (a ≡ true) ⊎ (b ≡ true)
either true b h = inl refl
either false b h = inr h

pub title : (r : RecordValue) → is_work_header r ≡ true → IsField "title" r.kind 4 60
title r h =
    let There : Kind → Type 0 = λ k. IsField "title" k 4 60 in
    elim (either (is_a kinds.Nwr r) (is_a kinds.Rev r) h) [
      | inl e ↦ subst There (sym (kind_of kinds.Nwr r e)) (record { carried = refl; place = refl; width = refl })
      | inr e ↦ subst There (sym (kind_of kinds.Rev r e)) (record { carried = refl; place = refl; width = refl })
    ]

pub work_number : (r : RecordValue) → is_work_header r ≡ true → IsField "submitter work number" r.kind 6 14
work_number r h =
    let There : Kind → Type 0 = λ k. IsField "submitter work number" k 6 14 in
    elim (either (is_a kinds.Nwr r) (is_a kinds.Rev r) h) [
      | inl e ↦ subst There (sym (kind_of kinds.Nwr r e)) (record { carried = refl; place = refl; width = refl })
      | inr e ↦ subst There (sym (kind_of kinds.Rev r e)) (record { carried = refl; place = refl; width = refl })
    ]

pub agreement_number : (r : RecordValue) → is_a kinds.Agr r ≡ true → IsField "submitter agreement number" r.kind 4 14
agreement_number r h =
    let There : Kind → Type 0 = λ k. IsField "submitter agreement number" k 4 14 in
    subst There (sym (kind_of kinds.Agr r h)) (record { carried = refl; place = refl; width = refl })

pub created_date : (r : RecordValue) → is_a kinds.Hdr r ≡ true → IsField "creation date" r.kind 6 8
created_date r h =
    let There : Kind → Type 0 = λ k. IsField "creation date" k 6 8 in
    subst There (sym (kind_of kinds.Hdr r h)) (record { carried = refl; place = refl; width = refl })

pub created_time : (r : RecordValue) → is_a kinds.Hdr r ≡ true → IsField "creation time" r.kind 7 6
created_time r h =
    let There : Kind → Type 0 = λ k. IsField "creation time" k 7 6 in
    subst There (sym (kind_of kinds.Hdr r h)) (record { carried = refl; place = refl; width = refl })

pub sender_type : (r : RecordValue) → is_a kinds.Hdr r ≡ true → IsField "sender type" r.kind 2 2
sender_type r h =
    let There : Kind → Type 0 = λ k. IsField "sender type" k 2 2 in
    subst There (sym (kind_of kinds.Hdr r h)) (record { carried = refl; place = refl; width = refl })

pub sender_id : (r : RecordValue) → is_a kinds.Hdr r ≡ true → IsField "sender id" r.kind 3 9
sender_id r h =
    let There : Kind → Type 0 = λ k. IsField "sender id" k 3 9 in
    subst There (sym (kind_of kinds.Hdr r h)) (record { carried = refl; place = refl; width = refl })
