-- Transmissions whose transactions are in another order of records, for the laws on the orders without copies.
use Rattle.std.specs.Prelude.{◌<◌, List, length, map}
use Rattle.std.specs.List.{AllByRecursion}
use Rattle.cwr_fields.specs.declared.codes.TransactionType.{TransactionType}
use Rattle.cwr_fields.specs.declared.kinds.Kind.TheVariants as kinds
use Rattle.cwr_lines.specs.Format.Records.{RecordValue, IsRecord}
use Rattle.cwr_shape.specs.declared.symbols.Symbol.{Symbol}
use Rattle.cwr_values.specs.Format.Values.{GroupValue, TransmissionValue, IsRecordOf, symbol_of, type_of}

-- which symbols are a whole transaction of a type
abbrev pub Order : Type 1
Order = TransactionType → List Symbol → Type 0

-- records that are a whole transaction of the type, in that order
abbrev pub IsTransactionIn : Order → TransactionType → List RecordValue → Type 0
IsTransactionIn order ty records = AllByRecursion IsRecord records × order ty (map symbol_of records)

-- a GRH record, one or more such transactions of its type, and a GRT record
pub record IsGroupIn (order : Order) (g : GroupValue) : Type 0 where
  pub head : IsRecordOf kinds.Grh g.head
  pub some_transaction : 0 < length g.transactions
  pub each : AllByRecursion (IsTransactionIn order (type_of g.head)) g.transactions
  pub foot : IsRecordOf kinds.Grt g.foot

-- an HDR record and one or more such groups
pub record IsTransmissionIn (order : Order) (v : TransmissionValue) : Type 0 where
  pub opening : IsRecordOf kinds.Hdr v.opening
  pub some_group : 0 < length v.groups
  pub each : AllByRecursion (IsGroupIn order) v.groups
