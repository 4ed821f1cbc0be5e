-- When some transmission within the limits continues from a line's first cells, by these cells and the symbols so far.
use Rattle.std.specs.Prelude.{◌≡◌, ℕ, suc, ◌<◌, IsFalse, List, ◌∷◌, [], ◌++◌, length, map, take, drop, Some}
use Rattle.std.specs.List.{AllZip, AllByRecursion, IsAmong}
use Rattle.cwr_fields.specs.declared.kinds.Kind.{Kind}
use Rattle.cwr_fields.specs.Format.Layouts.{layout, fields_after_type}
use Rattle.cwr_lines.specs.Format.Records.{RecordValue, IsRecord}
use Rattle.cwr_lines.specs.Format.GoodCells.{AreGood}
use Rattle.cwr_lines.specs.Format.Lines.{IsLineOf, line_kind, line_cells, has_bad_excess}
use Rattle.cwr_shape.specs.declared.symbols.Symbol.{Symbol}
use Rattle.cwr_shape.specs.Format.Ranges.{LimitValues}
use Rattle.cwr_shape.specs.Format.Outlines.{Continues, IsWithin}
use Rattle.cwr_shape.specs.Format.Candidates.{candidates}
use Rattle.cwr_values.specs.Format.Values.{symbol_of}
use Rattle.cwr_values.specs.Format.Begins.{numbers_after, rows_so_far}

-- The line has a kind, and its first m cells after the record type are good; after the last one the excess isn't bad. Some
-- transmission within the limits continues from the symbols by one that a record with these cells may have.
pub record HasGoodFront (limits : LimitValues) (xs : List Symbol) (line : List ℕ) (m : ℕ) : Type 0 where
  pub kind : Kind
  pub known : line_kind line ≡ Some kind
  pub good : AreGood (take m (fields_after_type kind)) (numbers_after xs kind) (take m (drop 1 (line_cells line)))
  pub excess : length (layout kind) < suc m → IsFalse (has_bad_excess line)
  pub symbol : Symbol
  pub among : IsAmong (candidates (Some kind) (take (suc m) (line_cells line))) symbol
  pub continues : Continues (IsWithin limits) (xs ++ symbol ∷ [])

-- the lines before are those of records in order, each of its row, and after these the line's first cells are good
pub record ContinuesFrom (limits : LimitValues) (before : List (List ℕ)) (line : List ℕ) (m : ℕ) : Type 0 where
  pub records : List RecordValue
  pub in_order : AllByRecursion IsRecord records
  pub lines : AllZip IsLineOf (rows_so_far records) before
  pub front : HasGoodFront limits (map symbol_of records) line m
