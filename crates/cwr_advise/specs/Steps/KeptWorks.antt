-- What is kept of the works of a transmission, and what is told of an item by that.
use Rattle.std.specs.Prelude.{◌≡◌, ℕ, ◌+◌, ◌≤◌, min, Bool, ◌||◌, ◌&&◌, List, flat_map, length, take, Option, if◌then◌else◌}
use Rattle.std.specs.BTreeMap.{get}
use Rattle.std.specs.Cmp.Lexicographic.{slice_cmp}
use Rattle.std.specs.Option.{is_some}
use Rattle.std.specs.Ordering.{nat_cmp}
use Rattle.cwr_shape.specs.declared.reasons.Level.{Level}
use Rattle.cwr_values.specs.declared.items.Item.{Item}
use Rattle.cwr_tools.specs.declared.totals.Totals.{Totals}
use Rattle.cwr_tools.specs.Steps.Counts.{IsCount}
use Rattle.cwr_advice.specs.declared.rules.AdviceRule.TheVariants.{A5a}
use Rattle.cwr_advice.specs.declared.said.Said.{Said}
use Rattle.cwr_advise.specs.declared.repeats.Place.{Place}
use Rattle.cwr_advise.specs.declared.repeats.Repeated.{Repeated}
use Rattle.cwr_advise.specs.declared.repeats.Repeats.{Repeats}
use Rattle.cwr_advise.specs.Format.AdviceLevels.{advice_reaches, own_reaches}
use Rattle.cwr_advise.specs.Steps.AdviceCounts.{counts_with, is_told_by}
use Rattle.cwr_advise.specs.Format.RepeatedWorks.{is_repeated, told_place, place_of, repeated_advice, repeated_in, repeated_text, work_header, works_in}

-- the places of the first of these works are kept by their numbers, and where some are to be kept all are counted, up to one more
pub record AreKeptOf (s : Repeats) (works : List (List ℕ × Place)) : Type 0 where
  pub known : (number : List ℕ) → get (slice_cmp nat_cmp) s.kept number ≡ place_of number (take s.limit works)
  pub counted : 1 ≤ s.limit → s.works ≡ min (length works) (s.limit + 1)

-- where a transaction stands that comes after items with these numbers
abbrev pub place_at : Totals → Place
place_at counts = record { group = counts.groups; sequence = counts.in_group; line = counts.records + 1 }

-- the lines on the item, which comes after items with these numbers, where this is to be told
abbrev pub repeated_at : ℕ → Totals → Item → Repeated → List ℕ
repeated_at limit counts item told =
    flat_map (λ h. repeated_text limit (place_at counts) h told.first told.is_beyond) (work_header item)

-- this, with the first work or without
abbrev pub shown_if : Bool → Repeated → Repeated
shown_if told repeated = record { first = told_place told repeated.first; is_beyond = repeated.is_beyond }

-- what is told of an item after others, whose works are kept, is what is to be told of it
abbrev pub TellsRepeated : Repeats → Totals → Item → Repeated → Type 0
TellsRepeated s counts item repeated =
    (told : Bool) (given : List Item) → IsCount counts given → AreKeptOf s (works_in given)
    → repeated_at s.limit counts item (shown_if told repeated) ≡ repeated_in told s.limit given item

-- what is told of it after so much advice of each rule, and the counts then
abbrev pub shown_repeated : Bool → List ℕ → Repeated → Repeated
shown_repeated all counts repeated = shown_if (is_told_by all counts A5a) repeated

abbrev pub counts_with_repeated : List ℕ → Repeated → List ℕ
counts_with_repeated counts repeated = if is_some repeated.first then counts_with counts A5a else counts

-- its number stands in a work before, where that is to be told
abbrev pub FindsRepeated : Repeats → Item → Repeated → Type 0
FindsRepeated s item told = (given : List Item) → AreKeptOf s (works_in given) → is_some told.first ≡ is_repeated s.limit given item

-- something that is told of the item has the level or a worse one, where so much is said of the transmission, and this is to be told
abbrev pub reaches_at : Option Level → Said → Item → Repeated → Bool
reaches_at asked said item told =
    own_reaches asked said item || (is_some told.first && advice_reaches asked repeated_advice)
