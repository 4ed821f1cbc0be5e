-- Items are encoded one after another, and their canonical text is digested.
use Rattle.std.proofs.Common.{◌≡◌, ◌∙◌, ℕ, false, List, [], ◌∷◌, ◌++◌, Option, Some, None, refl, sym, ap, subst}
use Rattle.std.specs.Prelude.{IfSome, Result, Ok}
use Rattle.std.specs.Io.KnownBytes.{Appends}
use Rattle.sha2.specs.Sha256.{sha256}
use Rattle.cwr_lines.specs.Format.Records.{RecordValue}
use Rattle.cwr_values.specs.declared.items.Item.{Item}
use Rattle.cwr_values.specs.declared.items.Item.TheVariants as items
use Rattle.cwr_values.specs.Format.Values.{IsTransmission, TransmissionValue}
use Rattle.cwr_values.specs.Format.Rows.{canonical_text, records_of}
use Rattle.cwr_values.proofs.lemmas.OneSpelling.{one_value}
use Rattle.cwr_judge.specs.Format.Items.{item_records, records_in, value_items}
use Rattle.cwr_encode.specs.declared.encoders.Encoder.{Encoder}
use Rattle.cwr_encode.specs.declared.encoders.EncodeFault.{EncodeFault}
use Rattle.cwr_encode.specs.Steps.Encoders.{AddsRecords, Encodes, is_stopped}
use Rattle.cwr_encode.specs.Steps.Finishing.{FinishesWriting}
use Rattle.cwr_parts.proofs.lemmas.ItemsAdded.{records_in_value}
use Rattle.cwr_parts.proofs.lemmas.JoiningOn.{records_more}
use Rattle.cwr_digests.specs.declared.digested_texts.DigestedText.{DigestedText}
use Rattle.cwr_summaries.specs.Steps.Digesting.{HasEncoded, IsDigestOf, IsDigesting, digested}

-- one item more
pub encoded_more : (failures : DigestedText → ℕ) (item : Item) (given : List Item) (old new : Encoder DigestedText) (u : Unit {0})
    → AddsRecords digested failures (item_records item) (Ok u) old new → HasEncoded old given → HasEncoded new (given ++ item ∷ [])
encoded_more failures item given old new u adds h = (
  subst (λ (l : List RecordValue). Encodes digested (Some []) l new) (sym (records_more given item)) (adds.0 (Some []) (records_in given) h.0),
  adds.1,
)

-- and the end
pub digested_whole : (failures : DigestedText → ℕ) (given : List Item) (encoder : Encoder DigestedText) (writer : DigestedText) (n : ℕ)
    (digest : List ℕ) → FinishesWriting digested failures encoder writer (Ok n) → HasEncoded encoder given → digest ≡ sha256 writer.taken.text
    → IsDigestOf digest (given ++ items.Ended ∷ [])
digested_whole failures given encoder writer n digest finishes h e =
    let w = finishes.1 (Some []) (records_in given) h.0 in
    record {
      value = w.0;
      whole = w.1.whole;
      records = w.1.records_are ∙ sym (records_more given items.Ended);
      of = e ∙ ap sha256 w.2.appended;
    }

-- nothing so far
pub nothing_digested : (encoder : Option (Encoder DigestedText)) → IfSome encoder (λ e. HasEncoded e []) → IsDigesting encoder None []
nothing_digested encoder h = record { encodes = h; digests = tt }

-- the digest of the items of a transmission is that of its canonical text
pub digest_is : (digest : Option (List ℕ)) (given : List Item) (v : TransmissionValue) → IsTransmission v → given ≡ value_items v
    → IfSome digest (λ d. IsDigestOf d given) → IfSome digest (λ d. d ≡ sha256 (canonical_text v))
digest_is None given v whole e h = tt
digest_is (Some d) given v whole e h =
    h.of ∙ ap (λ (w : TransmissionValue). sha256 (canonical_text w))
    (one_value h.value v h.whole whole (h.records ∙ ap records_in e ∙ records_in_value v))

pub same_digesting : {encoder other : Option (Encoder DigestedText)} {digest told : Option (List ℕ)} {given : List Item} → other ≡ encoder
    → told ≡ digest → IsDigesting encoder digest given → IsDigesting other told given
same_digesting {encoder = encoder} {other = other} {digest = digest} {told = told} {given = given} same same_digest h =
    subst (λ (o : Option (Encoder DigestedText)). IsDigesting o told given) (sym same)
    (subst (λ (o : Option (List ℕ)). IsDigesting encoder o given) (sym same_digest) h)

-- one item more, by what came of the call
pub encoded_so : (failures : DigestedText → ℕ) (item : Item) (records : List RecordValue) (given : List Item) (old new after : Encoder DigestedText)
    (put result : Result (Unit {0}) EncodeFault) (u : Unit {0}) → AddsRecords digested failures records result old new
    → item_records item ≡ records → put ≡ result → put ≡ Ok u → after ≡ new → HasEncoded old given → HasEncoded after (given ++ item ∷ [])
encoded_so failures item records given old new after put result u adds of is ok same h =
    subst (λ (e : Encoder DigestedText). HasEncoded e (given ++ item ∷ [])) (sym same)
    (encoded_more failures item given old new u
    (subst (λ (rs : List RecordValue). AddsRecords digested failures rs (Ok u) old new) (sym of)
    (subst (λ (r : Result (Unit {0}) EncodeFault). AddsRecords digested failures records r old new) (sym is ∙ ok) adds)) h)
