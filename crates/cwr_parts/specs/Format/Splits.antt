-- Transmissions cut into runs of transactions, and joined into one.
use Rattle.std.specs.Prelude.{ℕ, ◌+◌, ◌-◌, ◌*◌, ◌/◌, ◌==◌, nat_lt, List, ◌∷◌, length, map, filter, take, drop, flat_map}
use Rattle.std.specs.List.{range_with_len, enumerate_from}
use Rattle.cwr_fields.specs.declared.kinds.Kind.TheVariants as kinds
use Rattle.cwr_lines.specs.Format.Records.{RecordValue, blank_record}
use Rattle.cwr_values.specs.Format.Values.{GroupValue, TransmissionValue}

-- the list in runs of n, the last perhaps shorter
abbrev pub runs : {X : Type 0} → ℕ → List X → List (List X)
runs n xs = map (λ i. take n (drop (n * i) xs)) (range_with_len 0 ((length xs + n - 1) / n))

-- the transactions in order, each under the place of its group
abbrev pub transactions_by_group : TransmissionValue → List (ℕ × List RecordValue)
transactions_by_group v = flat_map (λ g. map (λ t. (g.0, t)) g.1.transactions) (enumerate_from 0 v.groups)

-- the part of the group at a place whose transactions are in the run, with a blank GRT
abbrev pub group_part : List (ℕ × List RecordValue) → ℕ → GroupValue → GroupValue
group_part run place g =
    record { head = g.head; transactions = map (λ p. p.1) (filter (λ p. p.0 == place) run); foot = blank_record kinds.Grt }

-- a group for each group that has transactions in the run
abbrev pub groups_in : List (ℕ × List RecordValue) → List GroupValue → List GroupValue
groups_in run groups =
    filter (λ g. nat_lt 0 (length g.transactions)) (map (λ p. group_part run p.0 p.1) (enumerate_from 0 groups))

-- a transmission for each run of n transactions
abbrev pub split_of : ℕ → TransmissionValue → List TransmissionValue
split_of n v = map (λ run. record { opening = v.opening; groups = groups_in run v.groups }) (runs n (transactions_by_group v))

-- the first one's HDR, and the groups of all
abbrev pub join_of : TransmissionValue → List TransmissionValue → TransmissionValue
join_of v others = record { opening = v.opening; groups = flat_map (λ w. w.groups) (v ∷ others) }
