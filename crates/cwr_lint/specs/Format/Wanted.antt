-- What is wanted of a lint, and what it writes of items.
use Rattle.std.specs.Prelude.{Bool, true, false, List, [], Option, Some, None, if◌then◌else◌}
use Rattle.cwr_values.specs.declared.items.Item.{Item}
use Rattle.cwr_tools.specs.Format.Reports.{ItemLines, lines_checked_apart, lines_up_to_fault}
use Rattle.cwr_advice.specs.declared.rules.Advice.{Advice}
use Rattle.cwr_advice.specs.declared.said.Said.{Said}
use Rattle.cwr_advise.specs.declared.item_advice.Manner.{Manner}
use Rattle.cwr_advise.specs.Format.AdviceLines.{advice_on, lines_advised}
use Rattle.cwr_lint.specs.Format.FaultsOfLines.{Asking}

-- words under each fault and each finding, and then an empty line; advice; and of that all, or of each rule the first three pieces
pub record Wanted : Type 0 where
  pub explained : Bool
  pub advised : Bool
  pub all : Bool

-- how findings and advice are told
abbrev pub manner_of : Bool → Bool → Manner
manner_of explained all = record { explained = explained; apart = explained; all = all }

-- the lines of items without advice or with it, and the verdict's
abbrev pub lines_with : Bool → Bool → Bool → ItemLines
lines_with false explained all = lines_checked_apart explained
lines_with true explained all = lines_advised (manner_of explained all) false 0

-- the same, and nothing of a refusal
abbrev pub lines_before_fault : Bool → Bool → Bool → ItemLines
lines_before_fault false explained all = lines_up_to_fault explained
lines_before_fault true explained all = lines_advised (manner_of explained all) true 0

-- what is written of a text without a fault
abbrev pub lines_linted : Wanted → ItemLines
lines_linted wanted = lines_with wanted.advised wanted.explained wanted.all

-- and up to the first fault
abbrev pub lines_up_to : Wanted → ItemLines
lines_up_to wanted = lines_before_fault wanted.advised wanted.explained wanted.all

-- the advice on these items, where advice is wanted
abbrev pub advice_when : Bool → List Item → List Advice
advice_when advised items = if advised then advice_on 0 items else []

-- what is said of the transmission, where advice is wanted
abbrev pub said_when : Bool → Said → Option Said
said_when advised said = if advised then Some said else None

-- what is asked for after the first fault: lines that explain or none, by what is said of the transmission where advice is wanted, and of that
-- all or not
abbrev pub asking_so : Bool → Option Said → Bool → Asking
asking_so explained said all = record { explained = explained; said = said; all = all }

-- so it is where so much is said of the transmission
abbrev pub asking_for : Wanted → Said → Asking
asking_for wanted said = asking_so wanted.explained (said_when wanted.advised said) wanted.all

-- so much is wanted
abbrev pub wanting : Bool → Bool → Bool → Wanted
wanting explained advised all = record { explained = explained; advised = advised; all = all }
