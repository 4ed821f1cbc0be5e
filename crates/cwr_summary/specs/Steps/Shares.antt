-- The share of an owner, if that isn't blank, and those of some added up.
use Rattle.std.specs.Prelude.{ℕ, ◌+◌, ◌-◌, ◌^◌, min, List, Option, None, Some, filter, if◌then◌else◌}
use Rattle.std.specs.List.{fold}
use Rattle.cwr_fields.specs.Format.Bytes.{is_spaces, number_of}
use Rattle.cwr_lines.specs.Format.Records.{RecordValue, cell_named}
use Rattle.cwr_findings.specs.Format.Findings.{is_owner}
use Rattle.cwr_summary.specs.declared.columns.Right.{Right}
use Rattle.cwr_summary.specs.Format.Summaries.{share_name}

-- the share that stands in a cell, if that isn't blank
abbrev pub share_of_cell : List ℕ → Option ℕ
share_of_cell cell = if is_spaces cell then None else Some (min (number_of cell) (2 ^ 64 - 1))

-- the record's share in the right, if that isn't blank
abbrev pub share_in : Right → RecordValue → Option ℕ
share_in right r = share_of_cell (cell_named (share_name right) r)

-- both, if there are two, and else the one that there is
abbrev pub joined : Option ℕ → Option ℕ → Option ℕ
joined (Some share) (Some more) = Some (min (share + more) (2 ^ 64 - 1))
joined (Some share) None = Some share
joined None more = more

-- the shares of the owners among records in the right added up, if one isn't blank
abbrev pub owned_in : Right → List RecordValue → Option ℕ
owned_in right records = fold (λ share r. joined share (share_in right r)) None (filter is_owner records)
