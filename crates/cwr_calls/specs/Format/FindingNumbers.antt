-- The findings of a text in numbers, as C sees them.
use Rattle.std.specs.Prelude.{ℕ, ◌+◌, List, [], ◌∷◌, ◌++◌, length, map}
use Rattle.cwr_findings.specs.declared.rules.Rule.{Rule}
use Rattle.cwr_findings.specs.declared.rules.Rule.TheVariants.{V1, V2, V3, V4, V5, V6, V7, V8, V9, V10, V11}
use Rattle.cwr_findings.specs.declared.rules.Finding.{Finding}
use Rattle.cwr_findings.specs.Format.Findings.{findings}
use Rattle.cwr_values.specs.declared.items.Item.{Item}
use Rattle.cwr_values.specs.declared.items.Item.TheVariants.{Transaction}
use Rattle.cwr_judge.specs.Format.Items.{item_records}
use Rattle.cwr_calls.specs.declared.listing.CwrFinding.{CwrFinding}
use Rattle.cwr_calls.specs.Format.VerdictNumbers.{letter}

-- the number in a rule's name
abbrev pub rule_number : Rule → ℕ
rule_number V1 = 1
rule_number V2 = 2
rule_number V3 = 3
rule_number V4 = 4
rule_number V5 = 5
rule_number V6 = 6
rule_number V7 = 7
rule_number V8 = 8
rule_number V9 = 9
rule_number V10 = 10
rule_number V11 = 11

-- a finding in a transaction before which so many records stand
abbrev pub finding_in_c : ℕ → Finding → CwrFinding
finding_in_c before f = record { rec = before + f.rec + 1; field = f.field; rule = rule_number f.rule; level = letter f.level }

-- the findings of an item
abbrev pub item_findings : ℕ → Item → List CwrFinding
item_findings before (Transaction t) = map (finding_in_c before) (findings t)
item_findings before item = []

-- the findings of items, in order
unfoldable pub findings_in_c : ℕ → List Item → List CwrFinding
findings_in_c before [] = []
findings_in_c before (item ∷ items) = item_findings before item ++ findings_in_c (before + length (item_records item)) items
