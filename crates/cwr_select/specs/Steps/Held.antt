-- What a selection holds between two items, and what one item more does to that.
use Rattle.std.specs.Prelude.{◌+◌, ◌≤◌, ◌==◌, List, [], ◌∷◌, ◌++◌, Some, None, if◌then◌else◌}
use Rattle.std.specs.Option.{option_to_list}
use Rattle.cwr_values.specs.declared.items.Item.{Item}
use Rattle.cwr_values.specs.declared.items.Item.TheVariants.{Opened, GroupOpened, Transaction, GroupClosed}
use Rattle.cwr_select.specs.declared.held.Held.{Held}
use Rattle.cwr_parts.specs.Steps.SplitOutputs.{blank_end}
use Rattle.cwr_select.specs.Format.Selections.{Choice}

-- nothing was handed out
abbrev pub none_held : Held
none_held = record {
  opening = None;
  head = None;
  group = 0;
  transactions = 0;
  selected = 0;
  report = record { selected = 0; transactions = 0 };
}

-- a group was opened
abbrev pub entered : Held → Item → Held
entered h head = record {
  opening = h.opening;
  head = Some head;
  group = h.group + 1;
  transactions = 0;
  selected = 0;
  report = h.report;
}

-- one transaction more was left out
abbrev pub with_left_out : Held → Held
with_left_out h = record {
  opening = h.opening;
  head = h.head;
  group = h.group;
  transactions = h.transactions + 1;
  selected = h.selected;
  report = record { selected = h.report.selected; transactions = h.report.transactions + 1 };
}

-- one more was selected, and HDR and GRH are written
abbrev pub with_selected : Held → Held
with_selected h = record {
  opening = None;
  head = None;
  group = h.group;
  transactions = h.transactions + 1;
  selected = h.selected + 1;
  report = record { selected = h.report.selected + 1; transactions = h.report.transactions + 1 };
}

-- what is held after an item
abbrev pub held_with : Choice → Held → Item → Held
held_with choice h (Opened r) = record h { opening = Some (Opened r) }
held_with choice h (GroupOpened r) = entered h (GroupOpened r)
held_with choice h (Transaction t) = if choice h.group h.transactions t then with_selected h else with_left_out h
held_with choice h item = h

-- what is written with a transaction that is selected: HDR and GRH where they weren't written, and the transaction
abbrev pub items_before : Held → List Item
items_before h = option_to_list h.opening ++ option_to_list h.head

-- what ends a group of which a transaction is selected
abbrev pub end_with : Held → Item → List Item
end_with h foot = if h.selected == 0 then [] else (if h.selected == h.transactions then foot else blank_end) ∷ []

-- what is written with an item
abbrev pub items_with : Choice → Held → Item → List Item
items_with choice h (Transaction t) = if choice h.group h.transactions t then items_before h ++ Transaction t ∷ [] else []
items_with choice h (GroupClosed r) = end_with h (GroupClosed r)
items_with choice h item = []

-- what is held after items, and what is written with them
abbrev pub held_after : Choice → Held → List Item → Held
held_after choice h [] = h
held_after choice h (item ∷ rest) = held_after choice (held_with choice h item) rest

abbrev pub items_after : Choice → Held → List Item → List Item
items_after choice h [] = []
items_after choice h (item ∷ rest) = items_with choice h item ++ items_after choice (held_with choice h item) rest

-- there is room to count one item more
pub record HasRoom (h : Held) : Type 0 where
  pub groups : h.group ≤ 199999998
  pub transactions : h.transactions ≤ 199999998
  pub selected : h.selected ≤ 199999998
  pub all : h.report.transactions ≤ 199999998
  pub all_selected : h.report.selected ≤ 199999998
