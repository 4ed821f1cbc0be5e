-- What is selected of a transmission: some of its transactions, and the groups that have any.
use Rattle.std.specs.Prelude.{ℕ, ◌==◌, nat_lt, Bool, length, map, filter, sum_by, List, [], ◌∷◌, Option, Some, None, if◌then◌else◌}
use Rattle.std.specs.List.{enumerate_from}
use Rattle.cwr_fields.specs.declared.kinds.Kind.TheVariants as kinds
use Rattle.cwr_lines.specs.Format.Records.{RecordValue, blank_record}
use Rattle.cwr_values.specs.Format.Values.{GroupValue, TransmissionValue}

-- whether a transaction is selected: by the place of its group, from 1, by its own in the group, from 0, and by its records
abbrev pub Choice : Type 0
Choice = ℕ → ℕ → List RecordValue → Bool

-- those of a group's transactions that are selected; the first of the list has that place
abbrev pub selected_transactions : (ℕ → List RecordValue → Bool) → ℕ → List (List RecordValue) → List (List RecordValue)
selected_transactions choice first transactions =
    map (λ p. p.1) (filter (λ p. choice p.0 p.1) (enumerate_from first transactions))

-- the GRT of a group of which so many of all transactions are selected: where some are left out it has no currency and no total
abbrev pub selected_foot : RecordValue → ℕ → ℕ → RecordValue
selected_foot foot count all = if count == all then foot else blank_record kinds.Grt

-- what is selected of the group at a place
abbrev pub selected_group : Choice → ℕ → GroupValue → GroupValue
selected_group choice place g =
    let transactions = selected_transactions (choice place) 0 g.transactions in
    record {
      head = g.head;
      transactions = transactions;
      foot = selected_foot g.foot (length transactions) (length g.transactions);
    }

-- the groups that have a selected transaction; the first of the list has that place
abbrev pub selected_groups : Choice → ℕ → List GroupValue → List GroupValue
selected_groups choice first groups =
    filter (λ g. nat_lt 0 (length g.transactions)) (map (λ p. selected_group choice p.0 p.1) (enumerate_from first groups))

-- a transmission of these groups, where there is one
abbrev pub with_groups : RecordValue → List GroupValue → Option TransmissionValue
with_groups opening [] = None
with_groups opening (g ∷ groups) = Some (record { opening = opening; groups = g ∷ groups })

-- what is selected of a transmission; none where no transaction is
abbrev pub selected : Choice → TransmissionValue → Option TransmissionValue
selected choice v = with_groups v.opening (selected_groups choice 1 v.groups)

-- how many transactions groups have
abbrev pub transactions_in : List GroupValue → ℕ
transactions_in groups = sum_by (λ g. length g.transactions) groups

-- how many transactions are selected
abbrev pub selected_count : Choice → TransmissionValue → ℕ
selected_count choice v = transactions_in (selected_groups choice 1 v.groups)
