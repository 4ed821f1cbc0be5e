-- The fields of acknowledgements and of messages.
use Rattle.std.proofs.Common.{◌≡◌, true, refl, sym, subst}
use Rattle.cwr_fields.specs.declared.kinds.Kind.{Kind}
use Rattle.cwr_fields.specs.declared.kinds.Kind.TheVariants as kinds
use Rattle.cwr_lines.specs.Format.Records.{RecordValue}
use Rattle.cwr_findings.specs.Format.Fields.{IsField}
use Rattle.cwr_findings.proofs.lemmas.KindTests.{kind_of}
use Rattle.cwr_delivery.specs.Format.Acknowledgements.{is_ack, is_message}

in_ack : (P : Kind → Type 0) (r : RecordValue) → is_ack r ≡ true → P kinds.Ack → P r.kind
in_ack P r h p = subst P (sym (kind_of kinds.Ack r h)) p

in_message : (P : Kind → Type 0) (r : RecordValue) → is_message r ≡ true → P kinds.Msg → P r.kind
in_message P r h p = subst P (sym (kind_of kinds.Msg r h)) p

pub group : (r : RecordValue) → is_ack r ≡ true → IsField "original group id" r.kind 6 5
group r h = in_ack (λ k. IsField "original group id" k 6 5) r h (record { carried = refl; place = refl; width = refl })

pub sequence : (r : RecordValue) → is_ack r ≡ true → IsField "original transaction sequence" r.kind 7 8
sequence r h =
    in_ack (λ k. IsField "original transaction sequence" k 7 8) r h (record { carried = refl; place = refl; width = refl })

pub original_type : (r : RecordValue) → is_ack r ≡ true → IsField "original transaction type" r.kind 8 3
original_type r h =
    in_ack (λ k. IsField "original transaction type" k 8 3) r h (record { carried = refl; place = refl; width = refl })

pub title : (r : RecordValue) → is_ack r ≡ true → IsField "creation title" r.kind 9 60
title r h = in_ack (λ k. IsField "creation title" k 9 60) r h (record { carried = refl; place = refl; width = refl })

pub submitter : (r : RecordValue) → is_ack r ≡ true → IsField "submitter creation number" r.kind 10 20
submitter r h =
    in_ack (λ k. IsField "submitter creation number" k 10 20) r h (record { carried = refl; place = refl; width = refl })

pub recipient : (r : RecordValue) → is_ack r ≡ true → IsField "recipient creation number" r.kind 11 20
recipient r h =
    in_ack (λ k. IsField "recipient creation number" k 11 20) r h (record { carried = refl; place = refl; width = refl })

pub status : (r : RecordValue) → is_ack r ≡ true → IsField "transaction status" r.kind 13 2
status r h = in_ack (λ k. IsField "transaction status" k 13 2) r h (record { carried = refl; place = refl; width = refl })

pub message_type : (r : RecordValue) → is_message r ≡ true → IsField "message type" r.kind 4 1
message_type r h = in_message (λ k. IsField "message type" k 4 1) r h (record { carried = refl; place = refl; width = refl })

pub record_number : (r : RecordValue) → is_message r ≡ true → IsField "original record sequence" r.kind 5 8
record_number r h =
    in_message (λ k. IsField "original record sequence" k 5 8) r h (record { carried = refl; place = refl; width = refl })

pub record_type : (r : RecordValue) → is_message r ≡ true → IsField "message record type" r.kind 6 3
record_type r h =
    in_message (λ k. IsField "message record type" k 6 3) r h (record { carried = refl; place = refl; width = refl })

pub level : (r : RecordValue) → is_message r ≡ true → IsField "message level" r.kind 7 1
level r h = in_message (λ k. IsField "message level" k 7 1) r h (record { carried = refl; place = refl; width = refl })

pub validation : (r : RecordValue) → is_message r ≡ true → IsField "validation number" r.kind 8 3
validation r h = in_message (λ k. IsField "validation number" k 8 3) r h (record { carried = refl; place = refl; width = refl })

pub message_text : (r : RecordValue) → is_message r ≡ true → IsField "message text" r.kind 9 150
message_text r h = in_message (λ k. IsField "message text" k 9 150) r h (record { carried = refl; place = refl; width = refl })
