-- Transactions of which nothing is told are passed over.
use Rattle.std.specs.Prelude.{◌≡◌, ℕ, ◌+◌, ◌^◌, ◌<◌, Bool, IsTrue, List, Option, Result}
use Rattle.cwr_lines.specs.Format.Records.{RecordValue}
use Rattle.cwr_values.specs.declared.items.Item.{Item}
use Rattle.cwr_decode.specs.declared.machine.Passed.{Passed}
use Rattle.cwr_decode.specs.declared.readings.ReadFault.{ReadFault}
use Rattle.cwr_decode.specs.Steps.Machines.{Standing}
use Rattle.cwr_decode.specs.Steps.Passing.{ReadsPassing}
use Rattle.cwr_tools.specs.declared.totals.Totals.{Totals}

-- a clean transaction, where such are passed over
abbrev pub IsPassed : Bool → (List RecordValue → Type 0) → List RecordValue → Type 0
IsPassed passes is_clean t = IsTrue passes × is_clean t

-- the numbers with those of the transactions that were passed over
abbrev pub totals_passing : Totals → Passed → Totals
totals_passing c passed = record {
  groups = c.groups;
  transactions = c.transactions + passed.transactions;
  in_group = c.in_group + passed.transactions;
  before_group = c.before_group;
  records = c.records + passed.records;
}

-- these numbers are small enough
pub record FitTotals (c : Totals) (passed : Passed) : Type 0 where
  pub transactions : c.transactions + passed.transactions < 2 ^ 32
  pub in_group : c.in_group + passed.transactions < 2 ^ 32
  pub records : c.records + passed.records < 2 ^ 32

-- something was read, after transactions that are so, and these were counted
pub record ReadsTold (is_so : List RecordValue → Type 0) (old : Standing) (left : Option (List ℕ)) (c : Totals)
    (answer : Result (Option Item) ReadFault) (new : Standing) (after : Option (List ℕ)) (more : Totals) : Type 0 where
  pub passed : Passed
  pub reads : ReadsPassing is_so old left passed answer new after
  pub counted : FitTotals c passed → more ≡ totals_passing c passed
