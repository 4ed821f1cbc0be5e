-- Where a split stands between two items, and what is then left of the transmission that they begin.
use Rattle.std.specs.Prelude.{◌≡◌, ℕ, ◌+◌, ◌==◌, ◌<◌, ◌⊎◌, List, [], ◌∷◌, ◌++◌, length, map, sum_by, flat_map, if◌then◌else◌}
use Rattle.std.specs.List.{AllByRecursion}
use Rattle.cwr_fields.specs.declared.kinds.Kind.TheVariants as kinds
use Rattle.cwr_lines.specs.Format.Records.{RecordValue, blank_record}
use Rattle.cwr_shape.specs.declared.limits.Limits.{Limits}
use Rattle.cwr_values.specs.declared.items.Item.{Item}
use Rattle.cwr_values.specs.declared.items.Item.TheVariants.{Opened, GroupOpened, Transaction, GroupClosed, Ended}
use Rattle.cwr_values.specs.Format.Values.{GroupValue, TransmissionValue, FitsIn, IsGroup, IsRecordOf, IsTransaction, type_of}
use Rattle.cwr_judge.specs.Format.Items.{group_items, value_items}
use Rattle.cwr_parts.specs.Format.Splits.{split_of}

-- a transmission of these groups, and a group of these transactions
abbrev pub value_of : RecordValue → List GroupValue → TransmissionValue
value_of o gs = record { opening = o; groups = gs }

abbrev pub group_value : RecordValue → List (List RecordValue) → RecordValue → GroupValue
group_value h ts f = record { head = h; transactions = ts; foot = f }

-- a group as it stands in a part, with a blank GRT
abbrev pub part_group : RecordValue → List (List RecordValue) → GroupValue
part_group h ts = group_value h ts (blank_record kinds.Grt)

-- the groups of a part: each has a transaction and a blank GRT
abbrev pub ArePartGroups : List GroupValue → Type 0
ArePartGroups gs = AllByRecursion (λ g. (0 < length g.transactions) × (g.foot ≡ blank_record kinds.Grt)) gs

-- how many transactions they have
abbrev pub total_in : List GroupValue → ℕ
total_in gs = sum_by (λ g. length g.transactions) gs

-- at the start, between groups, in a group, or at the end; the open part has these closed groups, and of the open group these
-- transactions
pub data SplitStage : Type 0 where
  Start : SplitStage
  Between : RecordValue → List GroupValue → SplitStage
  Inside : RecordValue → List GroupValue → RecordValue → List (List RecordValue) → SplitStage
  Over : SplitStage

-- the closed groups with the open one, where that has transactions
abbrev pub with_group : List GroupValue → RecordValue → List (List RecordValue) → List GroupValue
with_group closed h [] = closed
with_group closed h (t ∷ ts) = closed ++ part_group h (t ∷ ts) ∷ []

-- the part of these groups, if there are any
abbrev pub last_of : RecordValue → List GroupValue → List TransmissionValue
last_of o [] = []
last_of o (g ∷ gs) = value_of o (g ∷ gs) ∷ []

-- where it stands after an item
abbrev pub split_stage_after : ℕ → SplitStage → Item → SplitStage
split_stage_after n Start (Opened o) = Between o []
split_stage_after n (Between o closed) (GroupOpened h) = Inside o closed h []
split_stage_after n (Inside o closed h cur) (Transaction t) =
    if total_in closed + length cur + 1 == n then Inside o [] h [] else Inside o closed h (cur ++ t ∷ [])
split_stage_after n (Inside o closed h cur) (GroupClosed f) = Between o (with_group closed h cur)
split_stage_after n stage item = Over

-- the part that an item makes whole
abbrev pub parts_at : ℕ → SplitStage → Item → List TransmissionValue
parts_at n (Inside o closed h cur) (Transaction t) =
    if total_in closed + length cur + 1 == n then value_of o (closed ++ part_group h (cur ++ t ∷ []) ∷ []) ∷ [] else []
parts_at n (Between o closed) Ended = last_of o closed
parts_at n stage item = []

-- between groups, what is left has these groups after the closed ones of the open part
pub record RemainsBetween (limits : Limits) (n : ℕ) (v : TransmissionValue) (whole : List TransmissionValue) (o : RecordValue)
    (closed : List GroupValue) (rest : List Item) : Type 0 where
  pub after : List GroupValue
  pub rest_is : rest ≡ flat_map group_items after ++ Ended ∷ []
  pub opening : IsRecordOf kinds.Hdr o
  pub right : AllByRecursion IsGroup closed
  pub right_after : AllByRecursion IsGroup after
  pub part : ArePartGroups closed
  pub few : total_in closed < n
  pub within : FitsIn limits (value_of o (closed ++ after))
  pub split : split_of n v ≡ whole ++ split_of n (value_of o (closed ++ after))

-- in a group, it has first the others of that one's transactions
pub record RemainsInside (limits : Limits) (n : ℕ) (v : TransmissionValue) (whole : List TransmissionValue) (o : RecordValue)
    (closed : List GroupValue) (h : RecordValue) (cur : List (List RecordValue)) (rest : List Item) : Type 0 where
  pub todo : List (List RecordValue)
  pub foot : RecordValue
  pub after : List GroupValue
  pub rest_is : rest ≡ map Transaction todo ++ GroupClosed foot ∷ (flat_map group_items after ++ Ended ∷ [])
  pub opening : IsRecordOf kinds.Hdr o
  pub right : AllByRecursion IsGroup closed
  pub head : IsRecordOf kinds.Grh h
  pub each : AllByRecursion (IsTransaction (type_of h)) (cur ++ todo)
  pub some : (closed ≡ []) ⊎ (0 < length (cur ++ todo))
  pub right_after : AllByRecursion IsGroup after
  pub part : ArePartGroups closed
  pub few : total_in closed + length cur < n
  pub within : FitsIn limits (value_of o (closed ++ group_value h (cur ++ todo) foot ∷ after))
  pub split : split_of n v ≡ whole ++ split_of n (value_of o (closed ++ group_value h (cur ++ todo) foot ∷ after))

-- what is left of a transmission, whose first parts are whole
abbrev pub Remains : Limits → ℕ → TransmissionValue → List TransmissionValue → SplitStage → List Item → Type 0
Remains limits n v whole Start rest = (rest ≡ value_items v) × (whole ≡ [])
Remains limits n v whole (Between o closed) rest = RemainsBetween limits n v whole o closed rest
Remains limits n v whole (Inside o closed h cur) rest = RemainsInside limits n v whole o closed h cur rest
Remains limits n v whole Over rest = (rest ≡ []) × (split_of n v ≡ whole)

-- where it stands after items, and the parts that they make whole
abbrev pub stage_in : ℕ → SplitStage → List Item → SplitStage
stage_in n stage [] = stage
stage_in n stage (item ∷ items) = stage_in n (split_stage_after n stage item) items

abbrev pub parts_in : ℕ → SplitStage → List Item → List TransmissionValue
parts_in n stage [] = []
parts_in n stage (item ∷ items) = parts_at n stage item ++ parts_in n (split_stage_after n stage item) items

-- the items of the open part, and how many transactions it has
abbrev pub open_items : SplitStage → List Item
open_items (Inside o closed h (t ∷ ts)) = Opened o ∷ flat_map group_items closed ++ GroupOpened h ∷ map Transaction (t ∷ ts)
open_items (Inside o (g ∷ gs) h []) = Opened o ∷ flat_map group_items (g ∷ gs)
open_items (Between o (g ∷ gs)) = Opened o ∷ flat_map group_items (g ∷ gs)
open_items stage = []

abbrev pub open_total : SplitStage → ℕ
open_total (Inside o closed h cur) = total_in closed + length cur
open_total (Between o closed) = total_in closed
open_total stage = 0
