-- What a law over the order of records says.
use Rattle.std.specs.Prelude.{◌≡◌, List, [], ◌∷◌, ◌++◌, length, slice_index_or}
use Rattle.cwr_shape.specs.declared.symbols.Symbol.{Symbol}
use Rattle.cwr_shape.specs.Format.Numbers.{lengths_of, numbers_of, symbol_kind}
use Rattle.cwr_shape.specs.Format.Outlines.{GroupOutline, IsOutline, symbols_of}

-- where two outlines begin with the same symbols and go on with one of the same kind, that one has the same numbers in both
abbrev pub NumbersDependOnRecordsBefore : Type 0
NumbersDependOnRecordsBefore =
    (groups others : List GroupOutline) (xs : List Symbol) (s t : Symbol) (rest more : List Symbol) → IsOutline groups
    → IsOutline others → symbols_of groups ≡ xs ++ s ∷ rest → symbols_of others ≡ xs ++ t ∷ more → symbol_kind s ≡ symbol_kind t
    → slice_index_or (numbers_of (lengths_of groups)) (length xs) [] ≡ slice_index_or (numbers_of (lengths_of others)) (length xs) []
