-- What is seen of a transmission while some of its transactions are selected.
use Rattle.std.specs.Prelude.{◌≡◌, ℕ, ◌<◌, ◌≤◌, ◌+◌, ◌^◌, false, length, List, [], ◌∷◌, ◌++◌}
use Rattle.std.specs.List.{list_any}
use Rattle.cwr_values.specs.declared.items.Item.{Item}
use Rattle.cwr_values.specs.declared.items.Item.TheVariants.{GroupOpened, Transaction}
use Rattle.cwr_select.specs.Format.Selections.{Choice}
use Rattle.cwr_tools.specs.declared.viewing.FindingView.{FindingView}
use Rattle.cwr_tools.specs.Format.Watching.{AreFindingsIn}
use Rattle.cwr_transform.specs.declared.select_views.SelectView.{SelectView}
use Rattle.cwr_transform.specs.Format.Missing.{Placed, chosen_of, is_created_at}
use Rattle.cwr_transform.specs.Format.Openings.{openings_in}
use Rattle.cwr_transform.specs.Steps.Sought.{HasNoted, numbers_sought, places_sought}

-- the transactions among items, where so many groups came before them, and so many transactions of the last one
abbrev pub placed_after : ℕ → ℕ → List Item → List Placed
placed_after group place [] = []
placed_after group place (GroupOpened head ∷ items) = placed_after (group + 1) 0 items
placed_after group place (Transaction t ∷ items) =
    record { group = group; place = place; records = t } ∷ placed_after group (place + 1) items
placed_after group place (item ∷ items) = placed_after group place items

-- the findings of items, where memory was never refused
abbrev pub HasSeenFindings : List Item → FindingView → Type 0
HasSeenFindings items view = view.lacks_memory ≡ false → AreFindingsIn view.count items

-- It was as the first says before these items.
pub record HasSeen {C : Type 0} (choice : C → Choice) (first now : SelectView C) (items : List Item) : Type 0 where
  pub ps : List Placed
  pub on : (rest : List Item) → placed_after 0 0 (items ++ rest) ≡ ps ++ placed_after now.group now.transactions rest
  pub groups : now.group ≤ length items
  pub transactions : now.transactions ≤ length items
  pub choice_is : now.choice.now ≡ first.choice.now
  pub created_is : now.created ≡ first.created
  pub findings : HasSeenFindings (chosen_of (choice first.choice.now) ps) now.findings
  pub few : length ps ≤ length items
  pub sought : HasNoted (numbers_sought first.sought) (places_sought first.sought) now.group now.transactions ps now.sought
  pub moment : now.is_same_moment ≡ list_any (is_created_at first.created) (openings_in items)

-- so it is after items that are no more than a transmission has
abbrev pub has_seen : {C : Type 0} → (C → Choice) → SelectView C → SelectView C → List Item → Type 0
has_seen choice first now items = length items < 2 ^ 31 → HasSeen choice first now items
