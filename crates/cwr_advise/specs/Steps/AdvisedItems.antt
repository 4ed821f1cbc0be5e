-- What is written of an item, by what is kept of the items before it.
use Rattle.std.specs.Prelude.{◌≡◌, ℕ, ◌+◌, ◌-◌, ◌^◌, min, Bool, true, List, [], ◌++◌, length, flat_map, Option, Result}
use Rattle.cwr_values.specs.declared.items.Item.{Item}
use Rattle.cwr_values.specs.declared.items.Item.TheVariants.{Transaction}
use Rattle.cwr_findings.specs.Format.Findings.{findings}
use Rattle.cwr_lines.specs.Format.Records.{RecordValue}
use Rattle.cwr_tools.specs.declared.totals.Totals.{Totals}
use Rattle.cwr_devices.specs.declared.pens.Pen.{Pen}
use Rattle.cwr_tools.specs.declared.verdicts.Verdict.{Verdict}
use Rattle.cwr_tools.specs.declared.verdicts.Verdict.TheVariants.{Refused}
use Rattle.cwr_tools.specs.Format.Reports.{transaction_lines}
use Rattle.cwr_tools.specs.Format.Texts.{verdict_line}
use Rattle.cwr_tools.specs.Steps.Reports.{AddsLines}
use Rattle.cwr_advice.specs.declared.said.Said.{Said}
use Rattle.cwr_advice.specs.Format.Rules.{advice_of}
use Rattle.cwr_advise.specs.declared.before.Before.{Before}
use Rattle.cwr_advise.specs.declared.item_advice.Manner.{Manner}
use Rattle.cwr_advise.specs.Format.AdviceLines.{has_advice, said_in}
use Rattle.cwr_advise.specs.Format.AdviceTexts.{noted_advice}
use Rattle.cwr_advise.specs.Steps.AdviceCounts.{summary_by, told_by}

-- it is what the items so far leave behind
abbrev pub IsBefore : Before → List Item → Type 0
IsBefore before items = before.said ≡ said_in items

-- how many findings were told, with those of an item more; the number stays at the highest that it can be
abbrev pub told_with : ℕ → Item → ℕ
told_with before (Transaction t) = min (before + length (findings t)) (2 ^ 64 - 1)
told_with before item = before

-- the findings of a transaction, and then the advice on it that is told after so much of each rule
abbrev pub advised_after : Manner → List ℕ → Said → ℕ → ℕ → ℕ → List RecordValue → List ℕ
advised_after manner told said group sequence n t =
    transaction_lines manner.explained manner.apart group sequence n t
    ++ flat_map (noted_advice manner.apart group sequence n t) (told_by manner.all told (advice_of said t))

-- these are added, or memory for them is refused
abbrev pub AddsAdvised : {W E : Type 0} → (W → Option (List ℕ)) → (W → ℕ) → Manner → List ℕ → Said → ℕ → ℕ → ℕ → List RecordValue
    → Result (Unit {0}) E → Pen W → Pen W → Type 0
AddsAdvised contents failures manner told said group sequence n t result old new =
    AddsLines contents failures (has_advice t) (advised_after manner told said group sequence n t) result old new

-- the lines of one item more, after items with these numbers, and after so much advice of each rule
abbrev pub advised_at : Manner → List ℕ → Said → Totals → Item → List ℕ
advised_at manner told said counts (Transaction t) =
    advised_after manner told said counts.groups counts.in_group (counts.records + 1) t
advised_at manner told said counts item = []

-- how much of so much advice of each rule isn't told, and the verdict's line, or, up to a fault, nothing of a refusal
abbrev pub last_by : Bool → Bool → List ℕ → Verdict → List ℕ
last_by true all told (Refused refusal) = []
last_by up_to_fault all told verdict = summary_by all told ++ verdict_line verdict
