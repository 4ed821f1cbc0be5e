-- What an encoder holds of items whose canonical text is digested.
use Rattle.std.specs.Prelude.{◌≡◌, ℕ, false, List, [], Option, Some, IfSome}
use Rattle.sha2.specs.Sha256.{sha256}
use Rattle.cwr_values.specs.declared.items.Item.{Item}
use Rattle.cwr_values.specs.Format.Values.{IsTransmission, TransmissionValue}
use Rattle.cwr_values.specs.Format.Rows.{canonical_text, records_of}
use Rattle.cwr_judge.specs.Format.Items.{records_in}
use Rattle.cwr_encode.specs.declared.encoders.Encoder.{Encoder}
use Rattle.cwr_encode.specs.Steps.Encoders.{Encodes, is_stopped}
use Rattle.cwr_digests.specs.declared.digested_texts.DigestedText.{DigestedText}

-- what a writer that digests was given
abbrev pub digested : DigestedText → Option (List ℕ)
digested it = Some it.taken.text

-- it is the digest of the canonical text of the transmission that the items are
pub record IsDigestOf (digest : List ℕ) (given : List Item) : Type 0 where
  pub value : TransmissionValue
  pub whole : IsTransmission value
  pub records : records_of value ≡ records_in given
  pub of : digest ≡ sha256 (canonical_text value)

-- the encoder has encoded the items
abbrev pub HasEncoded : Encoder DigestedText → List Item → Type 0
HasEncoded encoder given = Encodes digested (Some []) (records_in given) encoder × (is_stopped encoder ≡ false)

-- The encoder, if there is one, has encoded the items, and the digest, if there is one, is theirs.
pub record IsDigesting (encoder : Option (Encoder DigestedText)) (digest : Option (List ℕ)) (given : List Item) : Type 0 where
  pub encodes : IfSome encoder (λ e. HasEncoded e given)
  pub digests : IfSome digest (λ d. IsDigestOf d given)
