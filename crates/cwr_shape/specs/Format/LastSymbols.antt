-- The last of some symbols that passes a test.
use Rattle.std.specs.Prelude.{Bool, true, false, List, Option, Some, None}
use Rattle.std.specs.List.{last_or, filter}
use Rattle.cwr_fields.specs.declared.codes.TransactionType.{TransactionType}
use Rattle.cwr_fields.specs.declared.codes.TransactionType.TheVariants.{Acknowledgement}
use Rattle.cwr_shape.specs.declared.symbols.Symbol.{Symbol}
use Rattle.cwr_shape.specs.declared.symbols.Symbol.TheVariants.{Grh}

-- the symbol is a GRH
abbrev pub is_grh : Symbol → Bool
is_grh (Grh ty) = true
is_grh s = false

-- the last symbol that passes the test
abbrev pub latest : (Symbol → Bool) → List Symbol → Option Symbol
latest test xs = last_or None (filter test xs)

-- the type of the last group; inside a transaction there is one
abbrev pub group_of : Option Symbol → TransactionType
group_of (Some (Grh ty)) = ty
group_of s = Acknowledgement
