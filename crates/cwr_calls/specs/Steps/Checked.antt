-- What a check answers to C.
use Rattle.std.specs.Prelude.{◌≡◌, ◌⊎◌, ℕ, List, Option, Some}
use Rattle.cwr_shape.specs.declared.limits.Limits.{Limits}
use Rattle.cwr_shape.specs.Format.Ranges.{limit_values}
use Rattle.cwr_values.specs.declared.items.Item.{Item}
use Rattle.cwr_tools.specs.declared.verdicts.Verdict.{Verdict}
use Rattle.cwr_tools.specs.Format.Reports.{ItemLines, lines_of_findings}
use Rattle.cwr_tools.specs.Format.Verdicts.{IsVerdictOn}
use Rattle.cwr_tools.specs.Steps.Reports.{LacksMemory}
use Rattle.cwr_calls.specs.declared.verdicts.CwrVerdict.{CwrVerdict}
use Rattle.cwr_calls.specs.Format.Answers.{IsOutOfRange}
use Rattle.cwr_calls.specs.Format.VerdictNumbers.{ended, in_c}

-- Memory may be refused there: for a record that comes after these items and for which its transaction's list asks, or for the lines of the
-- item after them.
abbrev pub MayLackMemory : ItemLines → Limits → List ℕ → Type 0
MayLackMemory of limits text =
    (given : List Item) × (after : Option (List ℕ)) × LacksMemory of limits (Some text) after given

-- 4 where a limit is out of its range; else 3 where memory was refused, which can only be for a transaction or its findings, or the verdict
-- on the text
abbrev pub Checks : ℕ → ℕ → ℕ → List ℕ → CwrVerdict → Type 0
Checks records groups transaction text told =
    (IsOutOfRange records groups transaction × (told ≡ ended 4))
    ⊎ ((told ≡ ended 3) × MayLackMemory lines_of_findings (limit_values records groups transaction) text)
    ⊎ ((verdict : Verdict) × (told ≡ in_c verdict) × IsVerdictOn (limit_values records groups transaction) text verdict)
