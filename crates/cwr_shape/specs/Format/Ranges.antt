-- The three limits as numbers, and their ranges.
use Rattle.std.specs.Prelude.{ℕ, ◌≤◌, Bool, not, ◌&&◌, nat_le, Option, Some, None, if◌then◌else◌}
use Rattle.cwr_shape.specs.declared.limits.LimitsFault.{LimitsFault}
use Rattle.cwr_shape.specs.declared.limits.LimitsFault.TheVariants.{Records, Groups, Transaction}

-- how many records and groups a transmission may have, and how many records each of its transactions
pub record LimitValues : Type 0 where
  pub records : ℕ
  pub groups : ℕ
  pub transaction : ℕ

-- the three limits
abbrev pub limit_values : ℕ → ℕ → ℕ → LimitValues
limit_values records groups transaction = record { records = records; groups = groups; transaction = transaction }

-- each limit is in its range
pub record AreInRange (limits : LimitValues) : Type 0 where
  pub least_records : 5 ≤ limits.records
  pub most_records : limits.records ≤ 99999999
  pub least_groups : 1 ≤ limits.groups
  pub most_groups : limits.groups ≤ 99999
  pub least_transaction : 1 ≤ limits.transaction
  pub most_transaction : limits.transaction ≤ 999999

-- the number is at least the one and at most the other
abbrev pub is_from_to : ℕ → ℕ → ℕ → Bool
is_from_to least most n = nat_le least n && nat_le n most

-- the first limit that isn't in its range
abbrev pub range_fault : LimitValues → Option LimitsFault
range_fault limits = if not (is_from_to 5 99999999 limits.records) then Some Records
    else (if not (is_from_to 1 99999 limits.groups) then Some Groups
    else (if not (is_from_to 1 999999 limits.transaction) then Some Transaction else None))
