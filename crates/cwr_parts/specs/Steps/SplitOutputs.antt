-- The outputs of a split while they are written: what one item does to the open one.
use Rattle.std.specs.Prelude.{◌≡◌, ℕ, ◌==◌, false, List, [], ◌∷◌, ◌++◌, Option, Some, None, IfSome, Result, Ok, Err}
use Rattle.std.specs.Prelude.{if◌then◌else◌}
use Rattle.cwr_devices.specs.Format.Failures.{one_more_failure}
use Rattle.cwr_fields.specs.declared.kinds.Kind.TheVariants as kinds
use Rattle.cwr_lines.specs.Format.Records.{blank_record}
use Rattle.cwr_shape.specs.Format.Ranges.{LimitValues}
use Rattle.cwr_values.specs.declared.items.Item.{Item}
use Rattle.cwr_values.specs.declared.items.Item.TheVariants.{GroupClosed, Ended}
use Rattle.cwr_values.specs.Format.Values.{TransmissionValue, IsTransmission, FitsIn}
use Rattle.cwr_values.specs.Format.Rows.{canonical_text}
use Rattle.cwr_judge.specs.Format.Items.{AreFirstItems, records_in, value_items}
use Rattle.cwr_encode.specs.declared.encoders.Encoder.{Encoder}
use Rattle.cwr_encode.specs.Steps.Encoders.{Encodes, is_stopped, encoder_limits, target_of}
use Rattle.cwr_parts.specs.declared.split_output.SplitOutput.{SplitOutput}
use Rattle.cwr_tools.specs.declared.verdicts.ToolFault.{ToolFault}
use Rattle.cwr_tools.specs.declared.verdicts.ToolFault.TheVariants.{Writer, Output}
use Rattle.cwr_devices.specs.Format.Outputs.{AddsText, given_up_with}
use Rattle.cwr_parts.specs.Format.Splitting.{CountsSplitOutput, CountsSplitWriter}

-- ---- items of an encoder

-- with these items after those that were written some transmission within the limits begins
pub record MayPut {W : Type 0} (contents : W → Option (List ℕ)) (added : List Item) (e : Encoder W) : Type 0 where
  pub start : Option (List ℕ)
  pub items : List Item
  pub encodes : Encodes contents start (records_in items) e
  pub first : AreFirstItems (encoder_limits e) (items ++ added)

-- whatever items were written, these were written more, and the writer didn't fail
pub record PutsOn {W : Type 0} (contents : W → Option (List ℕ)) (failures : W → ℕ) (added : List Item)
    (old new : Encoder W) : Type 0 where
  pub more : (start : Option (List ℕ)) (items : List Item) → Encodes contents start (records_in items) old
      → Encodes contents start (records_in (items ++ added)) new
  pub unfailed : is_stopped new ≡ false
  pub quiet : failures (target_of new) ≡ failures (target_of old)
  pub limits : encoder_limits new ≡ encoder_limits old

-- the items are written, or the writer fails in them
abbrev pub PutsItems : {W : Type 0} → (W → Option (List ℕ)) → (W → ℕ) → List Item → Result (Unit {0}) ToolFault → Encoder W
    → Encoder W → Type 0
PutsItems contents failures added (Ok u) old new = PutsOn contents failures added old new
PutsItems contents failures added (Err (Writer written)) old new =
    failures (target_of new) ≡ one_more_failure (failures (target_of old))
PutsItems contents failures added (Err fault) old new = ⊥

-- ---- the items of an output

-- a group ends with a blank GRT
abbrev pub blank_end : Item
blank_end = GroupClosed (blank_record kinds.Grt)

-- HDR is written where there is no transaction yet
abbrev pub opening_of : {W : Type 0} → Item → SplitOutput W → List Item
opening_of opening out = if out.transactions == 0 then opening ∷ [] else []

-- and GRH where no group is open
abbrev pub head_of : {W : Type 0} → Item → SplitOutput W → List Item
head_of head out = if out.in_group then [] else head ∷ []

-- what is written before a transaction
abbrev pub front_of : {W : Type 0} → Item → Item → SplitOutput W → List Item
front_of opening head out = opening_of opening out ++ head_of head out

-- what ends its group, if one is open
abbrev pub end_of : {W : Type 0} → SplitOutput W → List Item
end_of out = if out.in_group then blank_end ∷ [] else []

-- the same of an output that is open or not
abbrev pub open_front : {W : Type 0} → Item → Item → Option (SplitOutput W) → List Item
open_front opening head None = opening ∷ head ∷ []
open_front opening head (Some out) = front_of opening head out

abbrev pub open_end : {W : Type 0} → Option (SplitOutput W) → List Item
open_end None = []
open_end (Some out) = end_of out

abbrev pub open_count : {W : Type 0} → Option (SplitOutput W) → ℕ
open_count None = 0
open_count (Some out) = out.transactions

-- These items were written to it, and its writer didn't fail. Where the texts of the outputs are known it had no bytes before.
pub record IsOutput {W : Type 0} (contents : W → Option (List ℕ)) (failures : W → ℕ) (limits : LimitValues)
    (had : Option (List (List ℕ))) (items : List Item) (out : SplitOutput W) : Type 0 where
  pub start : Option (List ℕ)
  pub empty : IfSome had (λ _. start ≡ Some [])
  pub encodes : Encodes contents start (records_in items) out.encoder
  pub unfailed : is_stopped out.encoder ≡ false
  pub quiet : failures (target_of out.encoder) ≡ 0
  pub limits_are : encoder_limits out.encoder ≡ limits

-- where none is open, no items were
abbrev pub HoldsOutput : {W : Type 0} → (W → Option (List ℕ)) → (W → ℕ) → LimitValues → Option (List (List ℕ)) → List Item
    → Option (SplitOutput W) → Type 0
HoldsOutput contents failures limits had items None = items ≡ []
HoldsOutput contents failures limits had items (Some out) = IsOutput contents failures limits had items out

-- how many failures its writer has
abbrev pub open_failures : {W : Type 0} → (W → ℕ) → Option (SplitOutput W) → ℕ
open_failures failures None = 0
open_failures failures (Some out) = failures (target_of out.encoder)

-- with TRL the items are those of a transmission within the limits
pub record MayEnd (limits : LimitValues) (items : List Item) : Type 0 where
  pub value : TransmissionValue
  pub whole : IsTransmission value
  pub within : FitsIn limits value
  pub items_are : value_items value ≡ items ++ Ended ∷ []

-- items were written with which a transmission may end
pub record MayHandOver {W : Type 0} (contents : W → Option (List ℕ)) (out : SplitOutput W) : Type 0 where
  pub start : Option (List ℕ)
  pub items : List Item
  pub encodes : Encodes contents start (records_in items) out.encoder
  pub ends : MayEnd (encoder_limits out.encoder) items

-- ---- what outputs tell

-- what outputs tell of themselves, and their writers
pub record Told (O W : Type 0) : Type 0 where
  pub texts : O → Option (List (List ℕ))
  pub failures : O → ℕ
  pub given_up : O → ℕ
  pub contents : W → Option (List ℕ)
  pub writer_failures : W → ℕ

abbrev pub told_by : {O W : Type 0} → (O → Option (List (List ℕ))) → (O → ℕ) → (O → ℕ) → (W → Option (List ℕ)) → (W → ℕ)
    → Told O W
told_by texts failures given_up contents writer_failures = record {
  texts = texts;
  failures = failures;
  given_up = given_up;
  contents = contents;
  writer_failures = writer_failures;
}

-- nothing that they tell is changed
pub record IsQuiet {O W : Type 0} (told : Told O W) (old new : O) : Type 0 where
  pub texts : told.texts new ≡ told.texts old
  pub failures : told.failures new ≡ told.failures old
  pub given_up : told.given_up new ≡ told.given_up old

-- no failure was counted
pub record CountsNone {O W : Type 0} (told : Told O W) (old new : O) : Type 0 where
  pub failures : told.failures new ≡ told.failures old
  pub given_up : told.given_up new ≡ told.given_up old

-- ---- faults

-- only these come of an output
abbrev pub IsOutputFault : ToolFault → Type 0
IsOutputFault (Writer written) = Unit {0}
IsOutputFault Output = Unit {0}
IsOutputFault fault = ⊥

-- An output failed: they had no text more, and with a writer of so many failures, once it is given up, just that failure is
-- counted.
pub record FailsWith {O W : Type 0} (told : Told O W) (fault : ToolFault) (pending : ℕ) (old new : O) : Type 0 where
  pub is : IsOutputFault fault
  pub texts : told.texts new ≡ told.texts old
  pub failed : CountsSplitOutput {A = Unit {0}} (Err fault) (told.failures old) (told.failures new)
  pub given_up : CountsSplitWriter {A = Unit {0}} (Err fault) (told.given_up old) (given_up_with pending (told.given_up new))

-- ---- an output that is whole

-- The outputs have had the text of the transmission that its items and TRL are, where its writer had no bytes before.
pub record TakesOutput {O W : Type 0} (told : Told O W) (out : SplitOutput W) (old new : O) : Type
    0 where
  pub counts : CountsNone told old new
  pub text : (start : Option (List ℕ)) (items : List Item) (w : TransmissionValue)
      → Encodes told.contents start (records_in items) out.encoder → IsTransmission w → value_items w ≡ items ++ Ended ∷ []
      → IfSome (told.texts old) (λ _. start ≡ Some []) → AddsText (told.texts old) (told.texts new) (canonical_text w)

abbrev pub HandsOver : {O W : Type 0} → Told O W → SplitOutput W → Result (Unit {0}) ToolFault → O → O
    → Type 0
HandsOver told out (Ok u) old new = TakesOutput told out old new
HandsOver told out (Err fault) old new = FailsWith told fault 0 old new
