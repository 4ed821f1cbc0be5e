-- The texts that `check` and `show` write for the items and the end of a text.
use Rattle.std.specs.Prelude.{ℕ, List, [], ◌++◌, length, take, count_by, flat_map, sum_by}
use Rattle.std.specs.List.{after_last, enumerate_from}
use Rattle.cwr_values.specs.Format.Values.{TransmissionValue}
use Rattle.cwr_values.specs.Format.Rows.{rows}
use Rattle.cwr_values.specs.declared.items.Item.{Item}
use Rattle.cwr_values.specs.declared.items.Item.TheVariants.{Transaction}
use Rattle.cwr_judge.specs.Format.Items.{records_in, opens_group, is_transaction}
use Rattle.cwr_findings.specs.Format.Findings.{findings}
use Rattle.cwr_findings.specs.Format.ReportLines.{refusal_line, truncated_line, good_line, finding_line}
use Rattle.cwr_notes.specs.Format.RecordTexts.{numbered_records}
use Rattle.cwr_tools.specs.declared.verdicts.Verdict.{Verdict}
use Rattle.cwr_tools.specs.declared.verdicts.Verdict.TheVariants.{Good, Refused, Truncated}

-- the lines of an item's findings, where it is the transaction of that sequence in the group of that ID
abbrev pub finding_lines_in : ℕ → ℕ → Item → List ℕ
finding_lines_in group sequence (Transaction t) = flat_map (finding_line group sequence) (findings t)
finding_lines_in group sequence item = []

-- the finding lines of an item, by the items before it: its group's ID, and its sequence in the group
abbrev pub finding_lines : List Item → Item → List ℕ
finding_lines before item =
    finding_lines_in (count_by opens_group before) (count_by is_transaction (after_last opens_group before)) item

-- the line that says how a text ended
abbrev pub verdict_line : Verdict → List ℕ
verdict_line (Good groups transactions records) = good_line groups transactions records
verdict_line (Refused refusal) = refusal_line refusal
verdict_line (Truncated records) = truncated_line records

-- the verdict on an accepted text
abbrev pub good_verdict : TransmissionValue → Verdict
good_verdict v = Good (length v.groups) (sum_by (λ g. length g.transactions) v.groups) (length (rows v))

-- what `check` writes for items
unfoldable pub check_lines : List Item → List ℕ
check_lines items = flat_map (λ p. finding_lines (take p.0 items) p.1) (enumerate_from 0 items)

-- what `check` writes
abbrev pub check_text : List Item → Verdict → List ℕ
check_text items verdict = check_lines items ++ verdict_line verdict

-- what `show` writes for items
unfoldable pub show_lines : List Item → List ℕ
show_lines items = numbered_records 1 (records_in items)

-- what `show` writes
abbrev pub show_text : List Item → Verdict → List ℕ
show_text items verdict = show_lines items ++ verdict_line verdict
