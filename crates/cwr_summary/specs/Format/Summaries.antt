-- What stands in a transmission: how much each of its items adds to which columns.
use Prim.Native.String.{String}
use Rattle.std.specs.Prelude.{◌≡◌, ℕ, ◌-◌, ◌^◌, min, ◌==◌, ◌||◌, Bool, List, [], ◌∷◌, ◌++◌, length, slice_index, codes, filter, map, flat_map, sum_by, take, if◌then◌else◌}
use Rattle.std.specs.List.{list_all}
use Rattle.std.specs.Str.{bytes_eq}
use Rattle.cwr_fields.specs.declared.kinds.Kind.{Kind}
use Rattle.cwr_fields.specs.declared.kinds.Kind.TheVariants as kinds
use Rattle.cwr_fields.specs.declared.codes.TransactionType.TheVariants as types
use Rattle.cwr_fields.specs.declared.work_codes.VersionType.{VersionType}
use Rattle.cwr_fields.specs.declared.work_codes.VersionType.TheVariants as versions
use Rattle.cwr_fields.specs.declared.message_codes.TransactionStatus.{TransactionStatus}
use Rattle.cwr_fields.specs.Format.MessageCodes.{transaction_statuses}
use Rattle.cwr_lines.specs.Format.Records.{RecordValue, cell_named}
use Rattle.cwr_values.specs.declared.items.Item.{Item}
use Rattle.cwr_values.specs.declared.items.Item.TheVariants as items
use Rattle.cwr_delivery.specs.Format.Acknowledgements.{has_status}
use Rattle.cwr_findings.specs.declared.rules.Finding.{Finding}
use Rattle.cwr_findings.specs.Format.Headers.{is_work as is_work_header}
use Rattle.cwr_findings.specs.Format.Findings.{findings, is_a, is_blank, is_off, is_owner, is_work, ownership, share_of}
use Rattle.cwr_tools.specs.Format.Reports.{ItemLines, has_findings}
use Rattle.cwr_summary.specs.declared.columns.Column.{Column}
use Rattle.cwr_summary.specs.declared.columns.Column.TheVariants.{Groups, Transactions, Records, Works, Acknowledgements, Findings, Controlled, Others, WorksWithout, WorksOff}
use Rattle.cwr_summary.specs.declared.columns.Right.{Right}
use Rattle.cwr_summary.specs.declared.columns.Right.TheVariants.{Performing, Mechanical, Synchronization}
use Rattle.cwr_summary.specs.Format.Columns.{place}

-- so much, to a column
abbrev pub Part : Type 0
Part = Column × ℕ

-- ---- records

-- a record is one of its kind
abbrev pub record_part : RecordValue → Part
record_part r = (Records r.kind, 1)

-- ---- headers

-- a transaction is one of the type that its header names
abbrev pub type_parts : Kind → List Part
type_parts kinds.Agr = (Transactions types.Agreement, 1) ∷ []
type_parts kinds.Nwr = (Transactions types.NewWork, 1) ∷ []
type_parts kinds.Rev = (Transactions types.RevisedWork, 1) ∷ []
type_parts kinds.Ack = (Transactions types.Acknowledgement, 1) ∷ []
type_parts this_kind = []

-- the version of the work that a header names
abbrev pub version_of : RecordValue → VersionType
version_of r = if bytes_eq (cell_named "version type" r) (codes "MOD") then versions.Modified else versions.Original

-- the header of a work says of which version that is
abbrev pub version_parts : RecordValue → List Part
version_parts r = if is_work_header r then (Works (version_of r), 1) ∷ [] else []

-- what a header adds
abbrev pub header_parts : RecordValue → List Part
header_parts r = type_parts r.kind ++ version_parts r

-- ---- shares

-- the rights
abbrev pub all_rights : List Right
all_rights = Performing ∷ Mechanical ∷ Synchronization ∷ []

-- the name of a right's shares
abbrev pub share_name : Right → String
share_name Performing = "pr share"
share_name Mechanical = "mr share"
share_name Synchronization = "sr share"

-- controlled publishers and writers
abbrev pub is_controlled : RecordValue → Bool
is_controlled r = is_a kinds.Spu r || is_a kinds.Swr r

-- other publishers and writers
abbrev pub is_other : RecordValue → Bool
is_other r = is_a kinds.Opu r || is_a kinds.Owr r

-- the shares of an owner in a right
abbrev pub share_parts : Right → RecordValue → List Part
share_parts right r =
    if is_controlled r then (Controlled right, share_of (share_name right) r) ∷ []
    else if is_other r then (Others right, share_of (share_name right) r) ∷ [] else []

-- no owner has a share in the right
abbrev pub is_without : Right → List RecordValue → Bool
is_without right t = list_all (is_blank (share_name right)) (filter is_owner t)

-- what a work adds for a right
abbrev pub right_parts : List RecordValue → Right → List Part
right_parts t right =
    flat_map (share_parts right) t
    ++ (if is_without right t then (WorksWithout right, 1) ∷ []
    else if is_off (ownership (share_name right) t) then (WorksOff right, 1) ∷ [] else [])

-- what a work adds for all rights, and nothing of what is none
abbrev pub work_parts : List RecordValue → List Part
work_parts t = if is_work t then flat_map (right_parts t) all_rights else []

-- ---- items

-- an acknowledgement is one of those with its status
abbrev pub status_part : Item → TransactionStatus → List Part
status_part item status = if has_status status item then (Acknowledgements status, 1) ∷ [] else []

-- so it is of all statuses
abbrev pub status_parts : Item → List Part
status_parts item = flat_map (status_part item) transaction_statuses

-- a finding is one of its rule
abbrev pub finding_part : Finding → Part
finding_part f = (Findings f.rule, 1)

-- what a transaction adds
abbrev pub transaction_parts : List RecordValue → List Part
transaction_parts t =
    flat_map header_parts (take 1 t) ++ map record_part t ++ work_parts t ++ status_parts (items.Transaction t)
    ++ map finding_part (findings t)

-- what an item adds
abbrev pub item_parts : Item → List Part
item_parts (items.Opened r) = record_part r ∷ []
item_parts (items.GroupOpened r) = (Groups, 1) ∷ record_part r ∷ []
item_parts (items.Transaction t) = transaction_parts t
item_parts (items.GroupClosed r) = record_part r ∷ []
item_parts items.Ended = (Records kinds.Trl, 1) ∷ []

-- what items add
abbrev pub parts_of : List Item → List Part
parts_of given = flat_map item_parts given

-- the sum of what is added to a column
abbrev pub total : Column → List Part → ℕ
total column parts = sum_by (λ p. if place p.0 == place column then p.1 else 0) parts

-- There is a number for each column, and that is the sum of what these items add to it, or the highest in 64 bits.
pub record IsSummaryOf (given : List Item) (numbers : List ℕ) : Type 0 where
  pub columns : length numbers ≡ 80
  pub each : (column : Column) → slice_index numbers (place column) ≡ min (total column (parts_of given)) (2 ^ 64 - 1)

-- nothing is written of items; memory is taken for their findings
abbrev pub lines_of_nothing : ItemLines
lines_of_nothing = record { lines = λ items. []; last = λ items verdict. []; take_memory = has_findings }
