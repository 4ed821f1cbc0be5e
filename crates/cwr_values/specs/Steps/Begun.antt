-- How the records of a transaction are kept.
use Rattle.std.specs.Prelude.{◌<◌, List, [], ◌∷◌, ◌++◌, length, map}
use Rattle.std.specs.List.{AllByRecursion}
use Rattle.cwr_fields.specs.declared.codes.TransactionType.{TransactionType}
use Rattle.cwr_lines.specs.Format.Records.{RecordValue, IsRecord}
use Rattle.cwr_shape.specs.declared.symbols.Symbol.{Symbol}
use Rattle.cwr_shape.specs.declared.stages.TransactionStep.{TransactionStep}
use Rattle.cwr_shape.specs.Steps.Left.{StandsAtStep}
use Rattle.cwr_values.specs.Format.Values.{symbol_of}

-- the symbols begin a transaction of some type, and the step is the one after them
abbrev pub IsStepAfter : List Symbol → TransactionStep → Type 0
IsStepAfter xs step = (ty : TransactionType) × StandsAtStep ty xs step

-- it is the one after the records and one more
abbrev pub IsStepWith : List RecordValue → RecordValue → TransactionStep → Type 0
IsStepWith records r step = IsStepAfter (map symbol_of records ++ symbol_of r ∷ []) step

-- records are kept with the step after them
pub record KeepsTransaction (step : TransactionStep) (records : List RecordValue) : Type 0 where
  pub some : 0 < length records
  pub each : AllByRecursion IsRecord records
  pub stands : IsStepAfter (map symbol_of records) step
