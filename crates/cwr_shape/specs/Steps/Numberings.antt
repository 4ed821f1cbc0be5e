-- What is counted of records in whatever order, and the numbers that it gives the next one.
use Rattle.std.specs.Prelude.{ℕ, ◌≤◌, nat_lt, List, [], ◌∷◌, slice_index, if◌then◌else◌}
use Rattle.cwr_fields.specs.declared.codes.TransactionType.{TransactionType}
use Rattle.cwr_fields.specs.declared.codes.TransactionType.TheVariants.{Acknowledgement}
use Rattle.cwr_shape.specs.declared.symbols.Symbol.{Symbol}
use Rattle.cwr_shape.specs.declared.tallies.Counts.{Counts}
use Rattle.cwr_shape.specs.Format.NextSymbols.{type_after}
use Rattle.cwr_shape.specs.Steps.Counting.{counts_with}

-- the type of the open group, and what was counted
pub record NumberingValue : Type 0 where
  pub ty : TransactionType
  pub counts : Counts

-- no count is above the most records that are counted
pub record KeepsNumbering (c : Counts) : Type 0 where
  pub records : c.records ≤ 999999999
  pub groups : c.groups ≤ c.records
  pub transactions : c.transactions ≤ c.records
  pub in_group : c.in_group ≤ c.records
  pub after_grh : c.after_grh ≤ c.records
  pub after_header : c.after_header ≤ c.records

-- before the first record
abbrev pub no_records : NumberingValue
no_records =
    record {
      ty = Acknowledgement;
      counts = record { records = 0; groups = 0; transactions = 0; in_group = 0; after_grh = 0; after_header = 0 };
    }

-- with one record more, as long as records are counted
abbrev pub numbering_with : NumberingValue → Symbol → NumberingValue
numbering_with n s =
    if nat_lt n.counts.records 999999999 then (record { ty = type_after n.ty s; counts = counts_with n.ty n.counts s }) else n

-- the numbers, three of them, with zeros where there are fewer
abbrev pub three_numbers : List ℕ → List ℕ
three_numbers numbers = slice_index numbers 0 ∷ slice_index numbers 1 ∷ slice_index numbers 2 ∷ []
