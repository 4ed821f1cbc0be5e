-- The canonical text of groups, part by part, and how many records they may have.
use Rattle.std.specs.Prelude.{ℕ, ◌≤◌, List, [], ◌∷◌, ◌++◌, length, map, sum_by}
use Rattle.std.specs.List.{AllByRecursion, flat_map, enumerate_from}
use Rattle.cwr_lines.specs.Format.Records.{RecordValue, row_of}
use Rattle.cwr_shape.specs.Format.Numbers.{group_records, all_records}
use Rattle.cwr_values.specs.Format.Values.{GroupValue, TransmissionValue}
use Rattle.cwr_values.specs.Format.Rows.{canonical_line, lengths_of_value}
use Rattle.cwr_encode.specs.Steps.Texts.{text_from}

-- the text of a group's transactions
abbrev pub text_of_transactions : List (List RecordValue) → List ℕ
text_of_transactions ts = flat_map (λ p. text_from p.0 0 p.1) (enumerate_from 0 ts)

-- the text of the group that has that number
abbrev pub text_of_group : ℕ → GroupValue → List ℕ
text_of_group n g = canonical_line (row_of (n ∷ []) g.head)
    ++ (text_of_transactions g.transactions
    ++ canonical_line (row_of (n ∷ length g.transactions ∷ group_records (map length g.transactions) ∷ []) g.foot))

-- the text of a transmission's groups
abbrev pub text_of_groups : List GroupValue → List ℕ
text_of_groups gs = flat_map (λ p. text_of_group p.0 p.1) (enumerate_from 1 gs)

-- the group has no more records than any limits allow
pub record HasFewRecords (g : GroupValue) : Type 0 where
  pub transactions : length g.transactions ≤ 99999999
  pub records : group_records (map length g.transactions) ≤ 99999999
  pub each : AllByRecursion (λ t. length t ≤ 999999) g.transactions

-- the transmission has no more groups and records than any limits allow
pub record IsFew (v : TransmissionValue) : Type 0 where
  pub groups : length v.groups ≤ 99999
  pub transactions : sum_by length (lengths_of_value v) ≤ 99999999
  pub records : all_records (lengths_of_value v) ≤ 99999999
  pub each : AllByRecursion HasFewRecords v.groups
