-- Transmissions as values. No sequence number, group ID or count is in one.
use Rattle.std.specs.Prelude.{◌≡◌, ℕ, ◌<◌, List, [], length, map, unwrap_or, slice_get}
use Rattle.std.specs.List.{AllByRecursion}
use Rattle.cwr_fields.specs.declared.codes.Role.TheVariants.{Assignor}
use Rattle.cwr_fields.specs.declared.codes.TransactionType.{TransactionType}
use Rattle.cwr_fields.specs.declared.codes.TransactionType.TheVariants.{Acknowledgement}
use Rattle.cwr_fields.specs.declared.kinds.Kind.{Kind}
use Rattle.cwr_fields.specs.declared.kinds.Kind.TheVariants as kinds
use Rattle.cwr_lines.specs.Format.Records.{RecordValue, IsRecord}
use Rattle.cwr_shape.specs.declared.symbols.Symbol.{Symbol}
use Rattle.cwr_shape.specs.declared.symbols.Symbol.TheVariants.{Plain, Ipa, Grh}
use Rattle.cwr_shape.specs.declared.limits.Limits.{Limits}
use Rattle.cwr_shape.specs.Format.Shapes.{IsShape}
use Rattle.cwr_shape.specs.Format.Candidates.{role_in, type_in}
use Rattle.cwr_shape.specs.Format.Outlines.{GroupOutline, IsWithin}

-- a group: its GRH record, its transactions, each a list of records, and its GRT record
pub record GroupValue : Type 0 where
  pub head : RecordValue
  pub transactions : List (List RecordValue)
  pub foot : RecordValue

-- a transmission: its HDR record and its groups
pub record TransmissionValue : Type 0 where
  pub opening : RecordValue
  pub groups : List GroupValue

-- the first cell that the record carries: IPA's role, GRH's type
abbrev pub first_cell : RecordValue → List ℕ
first_cell r = unwrap_or (slice_get r.cells 0) []

-- the type that a GRH record names; one in order always names one
abbrev pub type_of : RecordValue → TransactionType
type_of r = unwrap_or (type_in (first_cell r)) Acknowledgement

-- what the order of records sees of a record of the kind; an IPA in order always names a role
abbrev pub symbol_by : Kind → RecordValue → Symbol
symbol_by kinds.Ipa r = Ipa (unwrap_or (role_in (first_cell r)) Assignor)
symbol_by kinds.Grh r = Grh (type_of r)
symbol_by this_kind r = Plain this_kind

-- what the order of records sees of a record
abbrev pub symbol_of : RecordValue → Symbol
symbol_of r = symbol_by r.kind r

-- records that are a whole transaction of the type
abbrev pub IsTransaction : TransactionType → List RecordValue → Type 0
IsTransaction ty records = AllByRecursion IsRecord records × IsShape ty (map symbol_of records)

-- a record of the kind, in order
abbrev pub IsRecordOf : Kind → RecordValue → Type 0
IsRecordOf kind r = (r.kind ≡ kind) × IsRecord r

-- a GRH record, one or more transactions of its type, and a GRT record
pub record IsGroup (g : GroupValue) : Type 0 where
  pub head : IsRecordOf kinds.Grh g.head
  pub some_transaction : 0 < length g.transactions
  pub each : AllByRecursion (IsTransaction (type_of g.head)) g.transactions
  pub foot : IsRecordOf kinds.Grt g.foot

-- an HDR record and one or more groups
pub record IsTransmission (v : TransmissionValue) : Type 0 where
  pub opening : IsRecordOf kinds.Hdr v.opening
  pub some_group : 0 < length v.groups
  pub each : AllByRecursion IsGroup v.groups

-- a group in symbols
abbrev pub outline_of_group : GroupValue → GroupOutline
outline_of_group g = record { ty = type_of g.head; transactions = map (map symbol_of) g.transactions }

-- the groups of a transmission, in symbols
abbrev pub outline_of : TransmissionValue → List GroupOutline
outline_of v = map outline_of_group v.groups

-- the transmission is within the limits
abbrev pub FitsIn : Limits → TransmissionValue → Type 0
FitsIn limits v = IsWithin limits (outline_of v)
