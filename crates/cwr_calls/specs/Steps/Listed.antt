-- How the findings of a text are listed, item by item.
use Rattle.std.specs.Prelude.{◌≡◌, ◌⊎◌, ℕ, ◌+◌, List, [], ◌∷◌, ◌++◌, count_by, length, Option, Some, Result, Ok, Err}
use Rattle.cwr_shape.specs.declared.limits.Limits.{Limits}
use Rattle.cwr_shape.specs.Format.Ranges.{limit_values}
use Rattle.cwr_values.specs.declared.items.Item.{Item}
use Rattle.cwr_judge.specs.Format.Items.{is_transaction, item_records, opens_group}
use Rattle.cwr_tools.specs.declared.verdicts.Verdict.{Verdict}
use Rattle.cwr_tools.specs.declared.verdicts.ToolFault.{ToolFault}
use Rattle.cwr_tools.specs.Format.Verdicts.{IsVerdictOn}
use Rattle.cwr_tools.specs.Steps.Verdicts.{IsRightVerdict}
use Rattle.cwr_calls.specs.declared.listing.CwrFinding.{CwrFinding}
use Rattle.cwr_calls.specs.declared.listing.Numbers.{Numbers}
use Rattle.cwr_calls.specs.declared.verdicts.CwrVerdict.{CwrVerdict}
use Rattle.cwr_calls.specs.Format.Answers.{IsOutOfRange}
use Rattle.cwr_calls.specs.Format.Copies.{CopiesOut}
use Rattle.cwr_calls.specs.Format.FindingNumbers.{findings_in_c}
use Rattle.cwr_calls.specs.Format.VerdictNumbers.{ended, in_c}

-- whatever was put before is continued with these elements
abbrev pub PutsMore : {X : Type 0} → List X → List X → ℕ → List X → ℕ → Type 0
PutsMore more old at new count = (all before : List _) → CopiesOut all before old at → CopiesOut (all ++ more) before new count

-- the numbers with those of one item more
abbrev pub numbers_with : Numbers → Item → Numbers
numbers_with n item = record {
  groups = n.groups + count_by opens_group (item ∷ []);
  transactions = n.transactions + count_by is_transaction (item ∷ []);
  records = n.records + length (item_records item);
}

-- these items come before the verdict, and their findings were put
abbrev pub ListsFrom : Limits → Option (List ℕ) → Option (List ℕ) → List CwrFinding → List CwrFinding → ℕ
    → Result Verdict ToolFault → Type 0
ListsFrom limits before after old new count (Ok verdict) =
    (given : List Item) × IsRightVerdict limits before verdict after given × CopiesOut (findings_in_c 0 given) old new count
ListsFrom limits before after old new count (Err fault) = Unit {0}

-- so of a text
abbrev pub ListsText : Limits → List ℕ → List CwrFinding → List CwrFinding → ℕ → Verdict → Type 0
ListsText limits text old new count verdict =
    (given : List Item) × (after : Option (List ℕ)) × IsRightVerdict limits (Some text) verdict after given
    × CopiesOut (findings_in_c 0 given) old new count

abbrev pub Lists : Limits → List ℕ → List CwrFinding → List CwrFinding → ℕ → Result Verdict ToolFault → Type 0
Lists limits text old new count (Ok verdict) = IsVerdictOn limits text verdict × ListsText limits text old new count verdict
Lists limits text old new count (Err fault) = Unit {0}

-- 4 where a limit is out of its range, 3 where memory was refused; else the verdict on the text, and the findings that come before it
abbrev pub TellsFindings : ℕ → ℕ → ℕ → List ℕ → List CwrFinding → List CwrFinding → ℕ → CwrVerdict → Type 0
TellsFindings records groups transaction text old new count told =
    (IsOutOfRange records groups transaction × (told ≡ ended 4) × (count ≡ 0) × (new ≡ old))
    ⊎ ((told ≡ ended 3) × (count ≡ 0))
    ⊎ ((verdict : Verdict) × (told ≡ in_c verdict) × IsVerdictOn (limit_values records groups transaction) text verdict
    × ListsText (limit_values records groups transaction) text old new count verdict)
