-- What a split holds between two items, and what one item more does to that.
use Rattle.std.specs.Prelude.{◌≡◌, ◌≢◌, ℕ, ◌+◌, ◌==◌, ◌<◌, ◌⊎◌, Bool, true, false, List, [], ◌∷◌, ◌++◌, Option, Some, None}
use Rattle.std.specs.Prelude.{Result, Ok, Err}
use Rattle.cwr_devices.specs.Format.Failures.{one_more_failure}
use Rattle.cwr_shape.specs.Format.Ranges.{LimitValues}
use Rattle.cwr_values.specs.declared.items.Item.{Item}
use Rattle.cwr_values.specs.declared.items.Item.TheVariants.{Ended}
use Rattle.cwr_values.specs.Format.Values.{TransmissionValue, IsTransmission}
use Rattle.cwr_values.specs.Format.Rows.{canonical_text}
use Rattle.cwr_judge.specs.Format.Items.{AreFirstItems, value_items}
use Rattle.cwr_encode.specs.Steps.Encoders.{is_stopped}
use Rattle.cwr_parts.specs.declared.split_output.SplitOutput.{SplitOutput}
use Rattle.cwr_parts.specs.declared.splitting.Splitting.{Splitting}
use Rattle.cwr_tools.specs.declared.verdicts.SplitReport.{SplitReport}
use Rattle.cwr_tools.specs.declared.verdicts.ToolFault.{ToolFault}
use Rattle.cwr_tools.specs.declared.verdicts.ToolFault.TheVariants.{Writer}
use Rattle.cwr_devices.specs.Format.Outputs.{AddsText, given_up_with}
use Rattle.cwr_parts.specs.Steps.SplitOutputs.{CountsNone, FailsWith, HoldsOutput, IsOutput, IsQuiet, MayEnd, MayPut, PutsOn}
use Rattle.cwr_parts.specs.Steps.SplitOutputs.{Told, blank_end, end_of, front_of, open_count, open_failures, open_front}

-- ---- the open output

-- the same with this open output
abbrev pub holding : {W : Type 0} → Splitting W → Option (SplitOutput W) → Splitting W
holding s out = record s { output = out }

-- whether a group is open in it
abbrev pub has_open_group : {W : Type 0} → Option (SplitOutput W) → Bool
has_open_group None = false
has_open_group (Some out) = out.in_group

-- how many outputs are open
abbrev pub open_outputs : {W : Type 0} → Option (SplitOutput W) → ℕ
open_outputs None = 0
open_outputs (Some out) = 1

-- the writers that are lent are as many more than the open outputs as they were
abbrev pub KeepsLent : {W : Type 0} → ℕ → Option (SplitOutput W) → ℕ → Option (SplitOutput W) → Type 0
KeepsLent before out after now = (others : ℕ) → before ≡ others + open_outputs out → after ≡ others + open_outputs now

-- it has so many transactions
abbrev pub has_all : {W : Type 0} → ℕ → Option (SplitOutput W) → Bool
has_all size None = false
has_all size (Some out) = out.transactions == size

-- its writer failed
abbrev pub FailsOpen : {W : Type 0} → (W → ℕ) → ToolFault → Option (SplitOutput W) → Option (SplitOutput W) → Type 0
FailsOpen failures (Writer written) old new = open_failures failures new ≡ one_more_failure (open_failures failures old)
FailsOpen failures fault old new = ⊥

-- ---- an output is open

-- an output is open, which had the items that one had before
pub record IsOpen {O W : Type 0} (told : Told O W) (old new : Splitting W)
    (before after : O) : Type 0 where
  pub out : SplitOutput W
  pub now : new ≡ holding old (Some out)
  pub quiet : IsQuiet told before after
  pub held : (items : List Item) → HoldsOutput told.contents told.writer_failures old.limits (told.texts before) items old.output
      → IsOutput told.contents told.writer_failures old.limits (told.texts before) items out
  pub counted : out.transactions ≡ open_count old.output
  pub group : out.in_group ≡ has_open_group old.output

abbrev pub OpensOutput : {O W : Type 0} → Told O W → Result (Unit {0}) ToolFault → Splitting W
    → Splitting W → O → O → Type 0
OpensOutput told (Ok u) old new before after = IsOpen told old new before after
OpensOutput told (Err fault) old new before after =
    FailsWith told fault (open_failures told.writer_failures new.output) before after

-- ---- a transaction is written

-- there is an open output to which it may be written
pub record MayWrite {W : Type 0} (contents : W → Option (List ℕ)) (item : Item) (s : Splitting W) : Type 0 where
  pub opening : Item
  pub head : Item
  pub out : SplitOutput W
  pub opening_is : s.opening ≡ Some opening
  pub head_is : s.head ≡ Some head
  pub open_is : s.output ≡ Some out
  pub opens : opening ≢ Ended
  pub heads : head ≢ Ended
  pub few : out.transactions < 199999999
  pub unfailed : is_stopped out.encoder ≡ false
  pub may : MayPut contents (front_of opening head out ++ item ∷ []) out.encoder

-- it was
pub record IsWritten {W : Type 0} (contents : W → Option (List ℕ)) (failures : W → ℕ) (item : Item) (old new : Splitting W) : Type
    0 where
  pub opening : Item
  pub head : Item
  pub out : SplitOutput W
  pub opening_is : old.opening ≡ Some opening
  pub head_is : old.head ≡ Some head
  pub open_is : old.output ≡ Some out
  pub added : SplitOutput W
  pub now : new ≡ record old
      { output = Some added; report = record { outputs = old.report.outputs; transactions = old.report.transactions + 1 } }
  pub puts : PutsOn contents failures (front_of opening head out ++ item ∷ []) out.encoder added.encoder
  pub counted : added.transactions ≡ out.transactions + 1
  pub group : added.in_group ≡ true

abbrev pub Writes : {W : Type 0} → (W → Option (List ℕ)) → (W → ℕ) → Item → Result (Unit {0}) ToolFault → Splitting W
    → Splitting W → Type 0
Writes contents failures item (Ok u) old new = IsWritten contents failures item old new
Writes contents failures item (Err fault) old new = FailsOpen failures fault old.output new.output

-- ---- a group ends

-- there is no open output, or its group may end
abbrev pub MayEndGroup : {W : Type 0} → (W → Option (List ℕ)) → Option (SplitOutput W) → Type 0
MayEndGroup contents None = Unit {0}
MayEndGroup contents (Some out) = (is_stopped out.encoder ≡ false) × MayPut contents (end_of out) out.encoder

-- the open output has no open group
pub record IsOutside {W : Type 0} (contents : W → Option (List ℕ)) (failures : W → ℕ) (out now : SplitOutput W) : Type 0 where
  pub puts : PutsOn contents failures (end_of out) out.encoder now.encoder
  pub counted : now.transactions ≡ out.transactions
  pub group : now.in_group ≡ false

abbrev pub IsOutsideOpen : {W : Type 0} → (W → Option (List ℕ)) → (W → ℕ) → Option (SplitOutput W) → Option (SplitOutput W)
    → Type 0
IsOutsideOpen contents failures None None = Unit {0}
IsOutsideOpen contents failures (Some out) (Some now) = IsOutside contents failures out now
IsOutsideOpen contents failures out now = ⊥

abbrev pub EndsGroup : {W : Type 0} → (W → Option (List ℕ)) → (W → ℕ) → Result (Unit {0}) ToolFault → Splitting W → Splitting W
    → Type 0
EndsGroup contents failures (Ok u) old new =
    (new ≡ holding old new.output) × IsOutsideOpen contents failures old.output new.output
EndsGroup contents failures (Err fault) old new = FailsOpen failures fault old.output new.output

-- ---- an output ends

-- the report with one output more
abbrev pub one_output : SplitReport → SplitReport
one_output report = record { outputs = report.outputs + 1; transactions = report.transactions }

-- with what ends its group its items are all of a transmission but TRL
abbrev pub MayEndHeld : {W : Type 0} → LimitValues → List Item → Option (SplitOutput W) → Type 0
MayEndHeld limits items None = Unit {0}
MayEndHeld limits items (Some out) = MayEnd limits (items ++ end_of out)

-- there is no open output, or it may end
pub record MayFinish {O W : Type 0} (told : Told O W) (s : Splitting W)
    (before : O) : Type 0 where
  pub items : List Item
  pub held : HoldsOutput told.contents told.writer_failures s.limits (told.texts before) items s.output
  pub ends : MayEndHeld s.limits items s.output

-- the report with an output more, where one was open
abbrev pub report_after : {W : Type 0} → SplitReport → Option (SplitOutput W) → SplitReport
report_after report None = report
report_after report (Some out) = record { outputs = report.outputs + 1; transactions = report.transactions }

-- an output that was open was handed over: whatever transmission its items were
abbrev pub IsHandedOver : {O W : Type 0} → Told O W → LimitValues → Option (SplitOutput W) → O → O
    → Type 0
IsHandedOver told limits None before after = IsQuiet told before after
IsHandedOver told limits (Some out) before after =
    CountsNone told before after
    × ((items : List Item) (w : TransmissionValue)
    → IsOutput told.contents told.writer_failures limits (told.texts before) items out
    → IsTransmission w → value_items w ≡ items ++ end_of out ++ Ended ∷ []
    → AddsText (told.texts before) (told.texts after) (canonical_text w))

abbrev pub FinishesOutput : {O W : Type 0} → Told O W → Result (Unit {0}) ToolFault → Splitting W
    → Splitting W → O → O → Type 0
FinishesOutput told (Ok u) old new before after =
    (new ≡ record old { output = None; report = report_after old.report old.output })
    × IsHandedOver told old.limits old.output before after
FinishesOutput told (Err fault) old new before after =
    FailsWith told fault (open_failures told.writer_failures new.output) before after

-- ---- a transaction is added

-- what the open output has with a transaction more
abbrev pub items_with : {W : Type 0} → List Item → Item → Item → Item → Option (SplitOutput W) → List Item
items_with items opening head item out = items ++ open_front opening head out ++ item ∷ []

-- these items were written to the open output, and with the transaction some transmission begins, or ends where it is full
pub record MayAddTransaction {O W : Type 0} (told : Told O W) (item : Item)
    (s : Splitting W) (before : O) : Type 0 where
  pub items : List Item
  pub opening : Item
  pub head : Item
  pub held : HoldsOutput told.contents told.writer_failures s.limits (told.texts before) items s.output
  pub opening_is : s.opening ≡ Some opening
  pub head_is : s.head ≡ Some head
  pub opens : opening ≢ Ended
  pub heads : head ≢ Ended
  pub few : open_count s.output < 199999999
  pub room : s.report.transactions < 199999999
  pub outputs : s.report.outputs < 199999999
  pub first : AreFirstItems s.limits (items_with items opening head item s.output)
  pub full : open_count s.output + 1 ≡ s.size → MayEnd s.limits (items_with items opening head item s.output ++ blank_end ∷ [])

-- the open output continues with it
pub record GoesOn {O W : Type 0} (told : Told O W) (opening head item : Item)
    (old new : Splitting W) (before after : O) : Type 0 where
  pub few : open_count old.output + 1 ≢ old.size
  pub out : SplitOutput W
  pub now : new ≡ record old
      { output = Some out; report = record { outputs = old.report.outputs; transactions = old.report.transactions + 1 } }
  pub quiet : IsQuiet told before after
  pub held : (items : List Item) → HoldsOutput told.contents told.writer_failures old.limits (told.texts before) items old.output
      → IsOutput told.contents told.writer_failures old.limits (told.texts before) (items_with items opening head item old.output)
      out
  pub counted : out.transactions ≡ open_count old.output + 1
  pub group : out.in_group ≡ true

-- it is whole with it, and was handed over
pub record FillsOutput {O W : Type 0} (told : Told O W)
    (opening head item : Item) (old new : Splitting W) (before after : O) : Type 0 where
  pub all : open_count old.output + 1 ≡ old.size
  pub now : new ≡ record old
      { output = None; report = record { outputs = old.report.outputs + 1; transactions = old.report.transactions + 1 } }
  pub counts : CountsNone told before after
  pub text : (items : List Item) (w : TransmissionValue)
      → HoldsOutput told.contents told.writer_failures old.limits (told.texts before) items old.output → IsTransmission w
      → value_items w ≡ items_with items opening head item old.output ++ blank_end ∷ [] ++ Ended ∷ []
      → AddsText (told.texts before) (told.texts after) (canonical_text w)

abbrev pub AddsTransaction : {O W : Type 0} → Told O W → Item → Result (Unit {0}) ToolFault
    → Splitting W → Splitting W → O → O → Type 0
AddsTransaction told item (Ok u) old new before after =
    (opening : Item) × (head : Item) × (old.opening ≡ Some opening) × (old.head ≡ Some head)
    × (GoesOn told opening head item old new before after
    ⊎ FillsOutput told opening head item old new before after)
AddsTransaction told item (Err fault) old new before after =
    FailsWith told fault (open_failures told.writer_failures new.output) before after

-- ---- the start, and an end before all was read

-- nothing was handed out
abbrev pub is_new : {W : Type 0} → LimitValues → ℕ → Splitting W
is_new limits size =
    record {
      limits = limits;
      size = size;
      opening = None;
      head = None;
      output = None;
      report = record { outputs = 0; transactions = 0 };
    }

-- the writer of an open output was given up
pub record GivesUp {O W : Type 0} (told : Told O W) (out : Option (SplitOutput W)) (before after : O) : Type 0
  where
    pub texts : told.texts after ≡ told.texts before
    pub failures_are : told.failures after ≡ told.failures before
    pub given_up : told.given_up after ≡ given_up_with (open_failures told.writer_failures out) (told.given_up before)
