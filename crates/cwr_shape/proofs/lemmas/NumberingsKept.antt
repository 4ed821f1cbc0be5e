-- A numbering with one record more, and what it has counted of records in whatever order.
use Rattle.std.proofs.Common.{◌<◌, Bool, true, false, cond}
use Rattle.std.proofs.Common.{arith}
use Rattle.cwr_fields.specs.declared.codes.TransactionType.{TransactionType}
use Rattle.cwr_shape.specs.declared.symbols.Symbol.{Symbol}
use Rattle.cwr_shape.specs.declared.symbols.Symbol.TheVariants.{Grh}
use Rattle.cwr_shape.specs.declared.tallies.Counts.{Counts}
use Rattle.cwr_shape.specs.Format.NextSymbols.{is_header_of}
use Rattle.cwr_shape.specs.Steps.Counting.{counts_with, counts_with_header, counts_with_other}
use Rattle.cwr_shape.specs.Steps.Numberings.{KeepsNumbering}

kept_inside : (b : Bool) (c : Counts) → KeepsNumbering c → c.records < 999999999
    → KeepsNumbering (cond b (counts_with_header c) (counts_with_other c))
kept_inside true c k h = record {
  records = omega (arith, h);
  groups = omega (arith, k.groups);
  transactions = omega (arith, k.transactions);
  in_group = omega (arith, k.in_group);
  after_grh = omega (arith, k.after_grh);
  after_header = omega arith;
}
kept_inside false c k h = record {
  records = omega (arith, h);
  groups = omega (arith, k.groups);
  transactions = omega (arith, k.transactions);
  in_group = omega (arith, k.in_group);
  after_grh = omega (arith, k.after_grh);
  after_header = omega (arith, k.after_header);
}

-- one record more is counted
pub kept_with : (ty : TransactionType) (c : Counts) (s : Symbol) → KeepsNumbering c → c.records < 999999999
    → KeepsNumbering (counts_with ty c s)
kept_with ty c (Grh t) k h = record {
  records = omega (arith, h);
  groups = omega (arith, k.groups);
  transactions = omega (arith, k.transactions);
  in_group = omega arith;
  after_grh = omega arith;
  after_header = omega arith;
}
kept_with ty c s k h = kept_inside (is_header_of ty s) c k h
