-- What the laws of summaries say.
use Rattle.std.specs.Prelude.{◌≡◌, ℕ, ◌+◌, ◌<◌, ◌==◌, ◌||◌, Bool, false, List, ◌∷◌, ◌++◌, sum_by}
use Rattle.std.specs.List.{AllByRecursion}
use Rattle.cwr_fields.specs.declared.kinds.Kind.{Kind}
use Rattle.cwr_fields.specs.declared.kinds.Kind.TheVariants as kinds
use Rattle.cwr_values.specs.declared.items.Item.{Item}
use Rattle.cwr_values.specs.Format.Values.{IsTransmission, TransmissionValue}
use Rattle.cwr_judge.specs.Format.Items.{value_items}
use Rattle.cwr_parts.specs.Format.Splits.{join_of, split_of}
use Rattle.cwr_summary.specs.declared.columns.Column.{Column}
use Rattle.cwr_summary.specs.declared.columns.Column.TheVariants.{Groups, Records}
use Rattle.cwr_summary.specs.Format.Columns.{place}
use Rattle.cwr_summary.specs.Format.Summaries.{parts_of, total}

-- what items add to a column is what the first of them and what the others add to it
abbrev pub SummariesAddUp : Type 0
SummariesAddUp = (column : Column) (front rest : List Item)
    → total column (parts_of (front ++ rest)) ≡ total column (parts_of front) + total column (parts_of rest)

-- ---- transmissions that are joined or split

-- what a transmission has in a column
abbrev pub amount : Column → TransmissionValue → ℕ
amount column v = total column (parts_of (value_items v))

-- the column is that of the records of the kind
abbrev pub counts_kind : Kind → Column → Bool
counts_kind kind column = place (Records kind) == place column

-- it is that of HDR or of TRL, of which each transmission has one
abbrev pub is_of_ends : Column → Bool
is_of_ends column = counts_kind kinds.Hdr column || counts_kind kinds.Trl column

-- it is that of groups, of GRH or of GRT
abbrev pub is_of_groups : Column → Bool
is_of_groups column = (place Groups == place column) || counts_kind kinds.Grh column || counts_kind kinds.Grt column

-- in each column but those of HDR and TRL a join has what its inputs have together
abbrev pub JoinsAddUp : Type 0
JoinsAddUp = (column : Column) (v : TransmissionValue) (others : List TransmissionValue) → is_of_ends column ≡ false
    → AllByRecursion IsTransmission (v ∷ others) → amount column (join_of v others) ≡ sum_by (amount column) (v ∷ others)

-- in each column but these and those of groups the parts of a split have together what was split
abbrev pub SplitsAddUp : Type 0
SplitsAddUp = (column : Column) (n : ℕ) (v : TransmissionValue) → is_of_ends column ≡ false → is_of_groups column ≡ false → 0 < n
    → IsTransmission v → sum_by (amount column) (split_of n v) ≡ amount column v
