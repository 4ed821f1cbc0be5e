-- What a whole run over a reader answers, and which bytes it takes.
use Rattle.std.specs.Prelude.{◌≡◌, ◌⊎◌, ℕ, List, ◌∷◌, ◌++◌, length, map, drop, Option, Some, IfSome, Result, MatchResult}
use Rattle.std.specs.List.{AllByRecursion}
use Rattle.std.specs.Io.KnownBytes.{Consumes}
use Rattle.cwr_fields.specs.declared.kinds.Kind.TheVariants as kinds
use Rattle.cwr_shape.specs.Format.Ranges.{LimitValues}
use Rattle.cwr_values.specs.declared.items.Item.{Item}
use Rattle.cwr_values.specs.declared.items.Item.TheVariants.{Transaction, GroupClosed}
use Rattle.cwr_lines.specs.Format.Records.{RecordValue}
use Rattle.cwr_values.specs.Format.Values.{TransmissionValue, IsRecordOf, IsTransaction, IsTransmission, FitsIn, type_of}
use Rattle.cwr_values.specs.Format.Rows.{canonical_text}
use Rattle.cwr_decode.specs.declared.readings.ReadFault.{ReadFault}
use Rattle.cwr_decode.specs.declared.readings.ReadFault.TheVariants.{Reader, Memory}
use Rattle.cwr_judge.specs.Format.Items.{value_items}
use Rattle.cwr_judge.specs.Format.Ends.{IsAccepted}

-- the items are those of a transmission
pub record AreItems (given : List Item) : Type 0 where
  pub value : TransmissionValue
  pub whole : IsTransmission value
  pub given_are : given ≡ value_items value

-- the items continue as those of a group of that GRH record: whole transactions of its type, and a GRT record
pub record AreGroupItems (head : RecordValue) (given : List Item) : Type 0 where
  pub head_is : IsRecordOf kinds.Grh head
  pub transactions : List (List RecordValue)
  pub each : AllByRecursion (IsTransaction (type_of head)) transactions
  pub foot : RecordValue
  pub foot_is : IsRecordOf kinds.Grt foot
  pub rest : List Item
  pub given_are : given ≡ map Transaction transactions ++ GroupClosed foot ∷ rest

-- ---- how a run ends

-- The bytes that the reader lost are accepted as the transmission. Where its bytes are known, they begin so, and it lost just
-- that front.
pub record TakesFront (limits : LimitValues) (before : Option (List ℕ)) (v : TransmissionValue) (after : Option (List ℕ)) : Type 0
  where
    pub input : List ℕ
    pub consumed : Consumes before after input
    pub accepted : IsAccepted limits input v (length input)
    pub front : IfSome before (λ text. IsAccepted limits text v (length input) × (after ≡ Some (drop (length input) text)))

-- of a text that is accepted the run answers that transmission and takes its bytes, unless the reader or memory failed
abbrev pub ReportsAccepted : LimitValues → Option (List ℕ) → Result TransmissionValue ReadFault → Option (List ℕ) → Type 0
ReportsAccepted limits before result after = IfSome before (λ text. (v : TransmissionValue) (n : ℕ) → IsAccepted limits text v n
    → MatchResult result (λ t. (t ≡ v) × (after ≡ Some (drop n text))) (λ fault. (fault ≡ Reader) ⊎ (fault ≡ Memory)))

-- the canonical text of a transmission within the limits is so read back, and what follows it stays unread
abbrev pub ReportsCanonical : LimitValues → Option (List ℕ) → Result TransmissionValue ReadFault → Option (List ℕ) → Type 0
ReportsCanonical limits before result after =
    (v : TransmissionValue) (more : List ℕ) → IsTransmission v → FitsIn limits v → before ≡ Some (canonical_text v ++ more)
    → MatchResult result (λ t. (t ≡ v) × (after ≡ Some more)) (λ fault. (fault ≡ Reader) ⊎ (fault ≡ Memory))
