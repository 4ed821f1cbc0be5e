-- How many findings items have, and whether one has a level, or a worse one.
use Rattle.std.specs.Prelude.{◌≡◌, ℕ, ◌+◌, ◌-◌, ◌^◌, min, Bool, false, nat_le, List, length, sum_by, Option, Some, None, IfSome}
use Rattle.std.specs.List.{list_any}
use Rattle.cwr_shape.specs.declared.limits.Limits.{Limits}
use Rattle.cwr_shape.specs.declared.reasons.Level.{Level}
use Rattle.cwr_shape.specs.declared.reasons.Level.TheVariants.{E, G, T, R, F}
use Rattle.cwr_values.specs.declared.items.Item.{Item}
use Rattle.cwr_values.specs.declared.items.Item.TheVariants.{Transaction}
use Rattle.cwr_values.specs.Format.Values.{TransmissionValue}
use Rattle.cwr_judge.specs.Format.Ends.{IsAccepted}
use Rattle.cwr_judge.specs.Format.Items.{value_items}
use Rattle.cwr_findings.specs.declared.rules.Finding.{Finding}
use Rattle.cwr_findings.specs.Format.Findings.{findings}
use Rattle.cwr_tools.specs.declared.finding_counts.FindingCount.{FindingCount}

-- how far what a level rejects goes: a field, a record, a transaction, a group, a file
abbrev pub reach : Level → ℕ
reach F = 0
reach R = 1
reach T = 2
reach G = 3
reach E = 4

-- the other level is that level or a worse one
abbrev pub is_from : Level → Level → Bool
is_from level other = nat_le (reach level) (reach other)

-- one of the findings has that level or a worse one; without a level none is asked for
abbrev pub has_from : Option Level → List Finding → Bool
has_from None found = false
has_from (Some level) found = list_any (λ f. is_from level f.level) found

-- so it is of a transaction's findings
abbrev pub item_has_from : Option Level → Item → Bool
item_has_from level (Transaction t) = has_from level (findings t)
item_has_from level item = false

-- and of those of some transaction among items
abbrev pub any_from : Option Level → List Item → Bool
any_from level items = list_any (item_has_from level) items

-- how many findings an item has
abbrev pub item_findings : Item → ℕ
item_findings (Transaction t) = length (findings t)
item_findings item = 0

-- the number with those of these items; it stays at the highest that it can be
abbrev pub findings_with : ℕ → List Item → ℕ
findings_with before items = min (before + sum_by item_findings items) (2 ^ 64 - 1)

-- the level is that which is asked for, or a worse one
abbrev pub is_reached_by : Option Level → Level → Bool
is_reached_by None level = false
is_reached_by (Some asked) level = is_from asked level

-- so is the worst one, if there is one
abbrev pub is_reached : Option Level → Option Level → Bool
is_reached asked None = false
is_reached asked (Some worst) = is_reached_by asked worst

-- the findings in these items: how many they are, and the worst level of one
pub record AreFindingsIn (count : FindingCount) (items : List Item) : Type 0 where
  pub counted : count.findings ≡ findings_with 0 items
  pub worst : (asked : Option Level) → is_reached asked count.worst ≡ any_from asked items

-- where a text is accepted, it stands after the items of its transmission
abbrev pub StandsAccepted : (List Item → Type 0) → Limits → Option (List ℕ) → Type 0
StandsAccepted stands limits before =
    IfSome before (λ text. (v : TransmissionValue) (n : ℕ) → IsAccepted limits text v n → stands (value_items v))

-- where a text is accepted, they are those of its transmission
abbrev pub CountsAccepted : Limits → Option (List ℕ) → FindingCount → Type 0
CountsAccepted limits before count = StandsAccepted (AreFindingsIn count) limits before
