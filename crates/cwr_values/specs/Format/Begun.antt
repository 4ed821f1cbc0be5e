-- What begins a transaction, a group and a transmission.
use Rattle.std.specs.Prelude.{◌≡◌, List, [], ◌∷◌, ◌++◌, map, slice_get, IsSomeAnd}
use Rattle.std.specs.List.{AllByRecursion}
use Rattle.cwr_fields.specs.declared.codes.TransactionType.{TransactionType}
use Rattle.cwr_fields.specs.declared.kinds.Kind.TheVariants as kinds
use Rattle.cwr_lines.specs.Format.Records.{RecordValue, IsRecord}
use Rattle.cwr_shape.specs.Format.Shapes.{IsShape, BeginsShape}
use Rattle.cwr_shape.specs.Format.NextSymbols.{header_kind}
use Rattle.cwr_values.specs.Format.Values.{GroupValue, TransmissionValue, symbol_of, type_of, IsTransaction, IsRecordOf, IsGroup}

-- records in an order in which some transaction begins
pub record IsBegun (records : List RecordValue) : Type 0 where
  pub each : AllByRecursion IsRecord records
  pub begins : BeginsShape (map symbol_of records)

-- the records are a whole transaction of some type
abbrev pub IsWholeTransaction : List RecordValue → Type 0
IsWholeTransaction records = (ty : TransactionType) × IsShape ty (map symbol_of records)

-- some transaction begins with the records and one more
abbrev pub BeginsWithOneMore : List RecordValue → RecordValue → Type 0
BeginsWithOneMore records r = BeginsShape (map symbol_of records ++ symbol_of r ∷ [])

-- the first of the records is a header of the type
abbrev pub HasHeaderOf : TransactionType → List RecordValue → Type 0
HasHeaderOf ty records = IsSomeAnd (slice_get records 0) (λ r. r.kind ≡ header_kind ty)

-- a GRH record, transactions of its type, zero or more, and a GRT record
pub record IsBegunGroup (g : GroupValue) : Type 0 where
  pub head : IsRecordOf kinds.Grh g.head
  pub each : AllByRecursion (IsTransaction (type_of g.head)) g.transactions
  pub foot : IsRecordOf kinds.Grt g.foot

-- an HDR record and groups, zero or more
pub record IsBegunTransmission (v : TransmissionValue) : Type 0 where
  pub opening : IsRecordOf kinds.Hdr v.opening
  pub each : AllByRecursion IsGroup v.groups
