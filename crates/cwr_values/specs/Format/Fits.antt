-- The first limit that a transmission doesn't keep to.
use Rattle.std.specs.Prelude.{ℕ, ◌==◌, nat_lt, List, length, map, Option, Some, option_map, find, if◌then◌else◌}
use Rattle.std.specs.List.{enumerate_from, flat_map}
use Rattle.cwr_shape.specs.declared.limits.Limits.{Limits}
use Rattle.cwr_values.specs.declared.transmissions.ValueFault.{ValueFault}
use Rattle.cwr_values.specs.declared.transmissions.ValueFault.TheVariants.{NoGroup, Records, Groups, Transaction}
use Rattle.cwr_values.specs.Format.Values.{TransmissionValue}
use Rattle.cwr_values.specs.Format.Rows.{rows, lengths_of_value}

-- each transaction by its group's place, its own place in the group, and its length
abbrev pub transaction_lengths : TransmissionValue → List (ℕ × ℕ × ℕ)
transaction_lengths v = flat_map (λ g. map (λ t. (g.0, t.0, t.1)) (enumerate_from 0 g.1)) (enumerate_from 0 (lengths_of_value v))

-- the first transaction that is longer than the limit
abbrev pub first_too_long : ℕ → TransmissionValue → Option ValueFault
first_too_long limit v = option_map (λ m. Transaction m.0 m.1) (find (λ m. nat_lt limit m.2) (transaction_lengths v))

-- no group, too many records, too many groups, or a transaction that is too long: the first of these
abbrev pub value_fault : Limits → TransmissionValue → Option ValueFault
value_fault limits v = if length v.groups == 0 then Some NoGroup
    else (if nat_lt limits.records (length (rows v)) then Some Records
    else (if nat_lt limits.groups (length v.groups) then Some Groups
    else first_too_long limits.transaction v))
