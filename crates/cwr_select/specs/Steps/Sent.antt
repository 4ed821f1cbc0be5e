-- The items of a transmission whose works are sent as new or as revised ones.
use Rattle.std.specs.Prelude.{map, List, ◌++◌, Option, Some, None, option_map}
use Rattle.std.specs.Option.{option_to_list}
use Rattle.cwr_lines.specs.Format.Records.{RecordValue}
use Rattle.cwr_values.specs.declared.items.Item.{Item}
use Rattle.cwr_values.specs.declared.items.Item.TheVariants.{GroupOpened, Transaction}
use Rattle.cwr_select.specs.declared.changes.WorkKind.{WorkKind}
use Rattle.cwr_select.specs.declared.held.Held.{Held}
use Rattle.cwr_select.specs.Format.Selections.{Choice}
use Rattle.cwr_select.specs.Format.Sent.{head_as, transaction_as}
use Rattle.cwr_select.specs.Steps.Held.{items_after, items_with, none_held}

-- a transaction as it is sent
abbrev pub sent_transaction : Option WorkKind → List RecordValue → List RecordValue
sent_transaction None t = t
sent_transaction (Some works) t = transaction_as works t

-- an item as it is sent: GRH and transactions have their types, and all others stay
abbrev pub sent_item : Option WorkKind → Item → Item
sent_item None item = item
sent_item (Some works) (GroupOpened r) = GroupOpened (head_as works r)
sent_item (Some works) (Transaction t) = Transaction (transaction_as works t)
sent_item (Some works) item = item

-- HDR and GRH as they are sent, where they weren't written
abbrev pub sent_before : Option WorkKind → Held → List Item
sent_before works h =
    option_to_list (option_map (sent_item works) h.opening) ++ option_to_list (option_map (sent_item works) h.head)

-- what is written with an item, and with items, as it is sent
abbrev pub sent_with : Option WorkKind → Choice → Held → Item → List Item
sent_with works choice h item = map (sent_item works) (items_with choice h item)

abbrev pub sent_after : Option WorkKind → Choice → List Item → List Item
sent_after works choice given = map (sent_item works) (items_after choice none_held given)
