-- What a split holds after the items that were handed out, and what it does with one more.
use Rattle.std.specs.Prelude.{◌≡◌, ℕ, ◌+◌, ◌*◌, ◌<◌, Bool, true, false, List, [], ◌∷◌, length, map, count_by, Option, Some, None}
use Rattle.std.specs.Prelude.{Result, Ok, Err}
use Rattle.cwr_shape.specs.declared.limits.Limits.{Limits}
use Rattle.cwr_values.specs.declared.items.Item.{Item}
use Rattle.cwr_values.specs.declared.items.Item.TheVariants.{Opened, GroupOpened}
use Rattle.cwr_values.specs.Format.Values.{TransmissionValue, FitsIn, IsTransmission}
use Rattle.cwr_values.specs.Format.Rows.{canonical_text}
use Rattle.cwr_judge.specs.Format.Items.{is_transaction}
use Rattle.cwr_parts.specs.declared.splitting.Splitting.{Splitting}
use Rattle.cwr_tools.specs.declared.verdicts.SplitReport.{SplitReport}
use Rattle.cwr_tools.specs.declared.verdicts.ToolFault.{ToolFault}
use Rattle.cwr_devices.specs.Format.Outputs.{AddsTexts}
use Rattle.cwr_parts.specs.Steps.SplitOutputs.{CountsNone, FailsWith, HoldsOutput, Told, open_count, open_failures}
use Rattle.cwr_parts.specs.Steps.SplitStages.{SplitStage, Remains, Between, Inside, Over, open_items, open_total, parts_at}
use Rattle.cwr_parts.specs.Steps.SplitStages.{split_stage_after}
use Rattle.cwr_parts.specs.Format.Splitting.{SplitsAll}
use Rattle.cwr_parts.specs.Steps.Splitting.{Splits}
use Rattle.cwr_parts.specs.Steps.SplitSteps.{has_open_group}

-- HDR is known from when it was handed out, and GRH in its group
abbrev pub KnowsOpening : SplitStage → Option Item → Type 0
KnowsOpening (Between o closed) known = known ≡ Some (Opened o)
KnowsOpening (Inside o closed h cur) known = known ≡ Some (Opened o)
KnowsOpening stage known = Unit {0}

abbrev pub KnowsHead : SplitStage → Option Item → Type 0
KnowsHead (Inside o closed h cur) known = known ≡ Some (GroupOpened h)
KnowsHead stage known = Unit {0}

-- a group is open in the open part
abbrev pub is_in_group : SplitStage → Bool
is_in_group (Inside o closed h (t ∷ ts)) = true
is_in_group stage = false

-- the transactions that were written are those of the outputs that are done, each with its number of them, and of the open one
abbrev pub HasCounted : SplitStage → ℕ → SplitReport → Type 0
HasCounted Over size report = Unit {0}
HasCounted stage size report = report.outputs * size + open_total stage ≡ report.transactions

-- what a split holds at a stage
pub record HoldsStage {O W : Type 0} (told : Told O W) (stage : SplitStage)
    (s : Splitting W) (now : O) : Type 0 where
  pub opening : KnowsOpening stage s.opening
  pub head : KnowsHead stage s.head
  pub output : HoldsOutput told.contents told.writer_failures s.limits (told.texts now) (open_items stage) s.output
  pub count : open_count s.output ≡ open_total stage
  pub group : has_open_group s.output ≡ is_in_group stage
  pub none : open_total stage ≡ 0 → s.output ≡ None
  pub counted : HasCounted stage s.size s.report

-- what it holds goes with what is left of some transmission that comes with this item next
pub record MayTake {O W : Type 0} (told : Told O W) (item : Item)
    (s : Splitting W) (now : O) : Type 0 where
  pub stage : SplitStage
  pub value : TransmissionValue
  pub whole : List TransmissionValue
  pub rest : List Item
  pub some : 0 < s.size
  pub right : IsTransmission value
  pub within : FitsIn s.limits value
  pub remains : Remains s.limits s.size value whole stage (item ∷ rest)
  pub holds : HoldsStage told stage s now
  pub room : s.report.transactions < 199999999

-- it was taken: the split is at the next stage, and these parts were handed over
pub record IsTaken {O W : Type 0} (told : Told O W) (next : SplitStage)
    (parts : List TransmissionValue) (item : Item) (old new : Splitting W) (before after : O) : Type 0 where
  pub holds : HoldsStage told next new after
  pub texts : AddsTexts (told.texts before) (told.texts after) (map canonical_text parts)
  pub counts : CountsNone told before after
  pub limits : new.limits ≡ old.limits
  pub size : new.size ≡ old.size
  pub outputs : new.report.outputs ≡ old.report.outputs + length parts
  pub transactions : new.report.transactions ≡ old.report.transactions + count_by is_transaction (item ∷ [])

abbrev pub TakesItem : {O W : Type 0} → Told O W → Item → Result (Unit {0}) ToolFault
    → Splitting W → Splitting W → O → O → Type 0
TakesItem told item (Ok u) old new before after =
    (may : MayTake told item old before) → IsTaken told
    (split_stage_after old.size may.stage item) (parts_at old.size may.stage item) item old new before after
TakesItem told item (Err fault) old new before after =
    FailsWith told fault (open_failures told.writer_failures new.output) before after

-- ---- a whole input

-- all outputs were handed over, or the first ones before a fault
abbrev pub SplitsItems : Limits → ℕ → Option (List ℕ) → Option (List ℕ) → Option (List (List ℕ)) → Option (List (List ℕ))
    → SplitReport → Result (Unit {0}) ToolFault → Type 0
SplitsItems limits n before after old new report (Ok u) = SplitsAll limits n before after old new report
SplitsItems limits n before after old new report (Err fault) = Splits limits n before after old new (Err fault)
