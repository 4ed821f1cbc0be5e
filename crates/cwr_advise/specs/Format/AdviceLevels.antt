-- Whether something that is told of items has a level, or a worse one.
use Rattle.std.specs.Prelude.{ℕ, Bool, false, ◌&&◌, ◌||◌, List, [], ◌∷◌, ◌++◌, Option, ◌≡◌}
use Rattle.std.specs.List.{list_any}
use Rattle.cwr_shape.specs.declared.reasons.Level.{Level}
use Rattle.cwr_values.specs.declared.items.Item.{Item}
use Rattle.cwr_values.specs.declared.items.Item.TheVariants.{Transaction}
use Rattle.cwr_findings.specs.Format.Findings.{findings}
use Rattle.cwr_tools.specs.Format.Reports.{ItemLines}
use Rattle.cwr_tools.specs.Format.Watching.{has_from, is_reached, is_reached_by}
use Rattle.cwr_advice.specs.declared.rules.Advice.{Advice}
use Rattle.cwr_advice.specs.declared.said.Said.{Said}
use Rattle.cwr_advice.specs.Format.Rules.{advice_of, level_of_rule}
use Rattle.cwr_advise.specs.declared.item_advice.Manner.{Manner}
use Rattle.cwr_advise.specs.Format.AdviceLines.{lines_advised, said_in}
use Rattle.cwr_advise.specs.Format.RepeatedWorks.{is_repeated, repeated_advice}

-- the advice has the level that is asked for, or a worse one; without a level none is asked for
abbrev pub advice_reaches : Option Level → Advice → Bool
advice_reaches asked a = is_reached_by asked (level_of_rule a.rule)

-- so does a finding in the item, or advice on it, where so much is said of the transmission
abbrev pub own_reaches : Option Level → Said → Item → Bool
own_reaches asked said (Transaction t) = has_from asked (findings t) || list_any (advice_reaches asked) (advice_of said t)
own_reaches asked said item = false

-- something that is told of an item which comes after these has the level or a worse one
abbrev pub item_reaches : ℕ → Option Level → List Item → Item → Bool
item_reaches limit asked before item =
    own_reaches asked (said_in before) item || (is_repeated limit before item && advice_reaches asked repeated_advice)

-- so it is of some of these items, which come after others
abbrev pub any_reaches_after : ℕ → Option Level → List Item → List Item → Bool
any_reaches_after limit asked before [] = false
any_reaches_after limit asked before (item ∷ items) =
    item_reaches limit asked before item || any_reaches_after limit asked (before ++ item ∷ []) items

-- something that is told of the items has the level or a worse one: a finding, advice, or that a number stands in a work before
unfoldable pub any_reaches : ℕ → Option Level → List Item → Bool
any_reaches limit asked items = any_reaches_after limit asked [] items

-- In these lines, which are lines of advice, something is told of the items that has the level or a worse one, or nothing is. Of how many
-- works the numbers are kept the lines say.
abbrev pub TellsFrom : ItemLines → Option Level → List Item → Bool → Type 0
TellsFrom of asked items found =
    (manner : Manner) × (up_to_fault : Bool) × (limit : ℕ) × (of ≡ lines_advised manner up_to_fault limit)
    × (found ≡ any_reaches limit asked items)

-- it is the worst level of what is told of the items in these lines
abbrev pub IsWorstTold : ItemLines → Option Level → List Item → Type 0
IsWorstTold of worst items =
    (manner : Manner) × (up_to_fault : Bool) × (limit : ℕ) × (of ≡ lines_advised manner up_to_fault limit)
    × ((asked : Option Level) → is_reached asked worst ≡ any_reaches limit asked items)
