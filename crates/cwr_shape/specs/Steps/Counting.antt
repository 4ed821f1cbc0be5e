-- How the counters continue with one more record at a stage, and the numbers that they give it.
use Rattle.std.specs.Prelude.{ℕ, ◌+◌, ◌-◌, ◌≤◌, Bool, ◌==◌, nat_lt, Option, Some, None, if◌then◌else◌}
use Rattle.cwr_fields.specs.declared.codes.Role.{Role}
use Rattle.cwr_fields.specs.declared.codes.Role.TheVariants.{Assignor, Acquirer}
use Rattle.cwr_fields.specs.declared.codes.TransactionType.{TransactionType}
use Rattle.cwr_fields.specs.declared.codes.TransactionType.TheVariants.{Acknowledgement}
use Rattle.cwr_shape.specs.declared.symbols.Symbol.{Symbol}
use Rattle.cwr_shape.specs.declared.symbols.Symbol.TheVariants as symbols
use Rattle.cwr_shape.specs.declared.stages.Stage.{Stage}
use Rattle.cwr_shape.specs.declared.stages.Stage.TheVariants.{Within}
use Rattle.cwr_shape.specs.declared.stages.TransactionStep.TheVariants.{InGroup, OneSide}
use Rattle.cwr_shape.specs.declared.tallies.Scope.{Scope}
use Rattle.cwr_shape.specs.declared.tallies.Scope.TheVariants as scopes
use Rattle.cwr_shape.specs.Steps.Needs.{needs_at}
use Rattle.cwr_shape.specs.declared.tallies.Counts.{Counts}
use Rattle.cwr_shape.specs.Format.Ranges.{LimitValues}
use Rattle.cwr_shape.specs.declared.limits.LimitKind.{LimitKind}
use Rattle.cwr_shape.specs.declared.limits.LimitKind.TheVariants.{Records, Groups, Transaction}
use Rattle.cwr_shape.specs.Format.NextSymbols.{is_header_of, has_open_transaction}

-- what is open at a stage
abbrev pub scope_at : Stage → Scope
scope_at (Within ty InGroup) = scopes.Group
scope_at (Within ty step) = scopes.Transaction
scope_at stage = scopes.File

-- the role of the party that brings a transaction nearer to its end: that which a block of one side lacks, and else any
abbrev pub wanted_role : Stage → Role
wanted_role (Within ty (OneSide Assignor)) = Acquirer
wanted_role stage = Assignor

-- the type of the group that is open at a stage, if one is
abbrev pub stage_type : Stage → TransactionType
stage_type (Within ty step) = ty
stage_type stage = Acknowledgement

-- with a GRH
abbrev pub counts_with_group : Counts → Counts
counts_with_group c = record {
  records = c.records + 1;
  groups = c.groups + 1;
  transactions = c.transactions;
  in_group = 0;
  after_grh = 0;
  after_header = 0;
}

-- with a header
abbrev pub counts_with_header : Counts → Counts
counts_with_header c = record {
  records = c.records + 1;
  groups = c.groups;
  transactions = c.transactions + 1;
  in_group = c.in_group + 1;
  after_grh = c.after_grh + 1;
  after_header = 0;
}

-- with any other record
abbrev pub counts_with_other : Counts → Counts
counts_with_other c = record {
  records = c.records + 1;
  groups = c.groups;
  transactions = c.transactions;
  in_group = c.in_group;
  after_grh = c.after_grh + 1;
  after_header = c.after_header + 1;
}

-- with a whole transaction of so many records
abbrev pub counts_with_transaction : Counts → ℕ → Counts
counts_with_transaction c n = record {
  records = c.records + n;
  groups = c.groups;
  transactions = c.transactions + 1;
  in_group = c.in_group + 1;
  after_grh = c.after_grh + n;
  after_header = n - 1;
}

-- with one more record, in a group of the type
abbrev pub counts_with : TransactionType → Counts → Symbol → Counts
counts_with ty c (symbols.Grh t) = counts_with_group c
counts_with ty c s = if is_header_of ty s then counts_with_header c else counts_with_other c

-- no count is so large that a few more aren't a number of the code
pub record HaveRoom (c : Counts) : Type 0 where
  pub records : c.records ≤ 999999999
  pub groups : c.groups ≤ 999999999
  pub transactions : c.transactions ≤ 999999999
  pub in_group : c.in_group ≤ 999999999
  pub after_grh : c.after_grh ≤ 999999999
  pub after_header : c.after_header ≤ 999999999

-- the number in a field of a record inside a transaction, which is a header or not
abbrev pub number_inside : Bool → Counts → ℕ → Option ℕ
number_inside begins c j = if 2 == j then Some (if begins then c.in_group else (c.in_group - 1))
    else (if 3 == j then Some (if begins then 0 else (c.after_header + 1)) else None)

-- how many records the open transaction has at a stage, if one is open
abbrev pub open_at : Stage → Counts → ℕ
open_at stage c = if has_open_transaction (scope_at stage) then (1 + c.after_header) else 0

-- the first limit that what was counted and what must still come pass at a stage
abbrev pub passed_limit_at : LimitValues → Stage → Counts → Option LimitKind
passed_limit_at limits stage c = if nat_lt limits.records (c.records + (needs_at stage).records) then Some Records
    else (if nat_lt limits.groups (c.groups + (needs_at stage).groups) then Some Groups
    else (if nat_lt limits.transaction (open_at stage c + (needs_at stage).transaction) then Some Transaction else None))
