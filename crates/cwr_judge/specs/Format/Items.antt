-- The items that rows give: transactions, and the records that stand around them.
use Rattle.std.specs.Prelude.{◌≡◌, ℕ, ◌+◌, ◌-◌, Bool, true, false, not, ◌&&◌, ◌==◌, List, [], ◌∷◌, ◌++◌, length, map, drop}
use Rattle.std.specs.Prelude.{Option, Some, None, slice_index_or, if◌then◌else◌}
use Rattle.std.specs.List.{last_or, flat_map}
use Rattle.cwr_fields.specs.Format.Bytes.{number_of}
use Rattle.cwr_fields.specs.declared.kinds.Kind.{Kind}
use Rattle.cwr_fields.specs.declared.kinds.Kind.TheVariants.{Hdr, Grh, Grt, Trl}
use Rattle.cwr_fields.specs.Format.Kinds.{is_in_transaction}
use Rattle.cwr_lines.specs.Format.Records.{RecordValue, Row, record_of}
use Rattle.cwr_values.specs.declared.items.Item.{Item}
use Rattle.cwr_values.specs.declared.items.Item.TheVariants.{Opened, GroupOpened, Transaction, GroupClosed, Ended}
use Rattle.cwr_shape.specs.declared.limits.Limits.{Limits}
use Rattle.cwr_values.specs.Format.Values.{GroupValue, TransmissionValue, IsTransmission, FitsIn}
use Rattle.cwr_values.specs.Format.Rows.{trailer}

-- the record sequence that a row inside a transaction carries in its third cell
abbrev pub record_sequence : Row → ℕ
record_sequence row = number_of (slice_index_or row.cells 2 [])

-- the row belongs to the transaction of the row before it
abbrev pub continues_transaction : Row → Bool
continues_transaction row = is_in_transaction row.kind && not (record_sequence row == 0)

-- a transaction ends with the last of the rows, where this row comes next
abbrev pub ends_transaction : Option Row → Row → Bool
ends_transaction None row = false
ends_transaction (Some last) row = is_in_transaction last.kind && not (continues_transaction row)

-- the transaction that ends with the last of the rows: as many rows before that one belong to it as its record sequence says
abbrev pub transaction_at_end : Option Row → List Row → List RecordValue
transaction_at_end None before = []
transaction_at_end (Some last) before = map record_of (drop (length before - (1 + record_sequence last)) before)

-- the row's own item
abbrev pub own_item : Kind → Row → List Item
own_item Hdr row = Opened (record_of row) ∷ []
own_item Grh row = GroupOpened (record_of row) ∷ []
own_item Grt row = GroupClosed (record_of row) ∷ []
own_item Trl row = Ended ∷ []
own_item this_kind row = []

-- the items that a row gives after these rows: the transaction that ended with the row before it, and then its own
abbrev pub items_at : List Row → Row → List Item
items_at before row =
    (if ends_transaction (last_or None before) row then Transaction (transaction_at_end (last_or None before) before)
    ∷ [] else [])
    ++ own_item row.kind row

-- the items that rows give after others
unfoldable pub items_after : List Row → List Row → List Item
items_after before [] = []
items_after before (row ∷ rest) = items_at before row ++ items_after (before ++ row ∷ []) rest

-- the items that rows give
abbrev pub items : List Row → List Item
items rows = items_after [] rows

-- ---- the same of a transmission, by its parts

-- a group's items once it is open: each of its transactions, it closes
abbrev pub group_rest : GroupValue → List Item
group_rest g = map Transaction g.transactions ++ GroupClosed g.foot ∷ []

-- a group's items: it opens, and the others
abbrev pub group_items : GroupValue → List Item
group_items g = GroupOpened g.head ∷ group_rest g

-- a transmission's items: it opens, each of its groups, it ends
abbrev pub value_items : TransmissionValue → List Item
value_items v = Opened v.opening ∷ flat_map group_items v.groups ++ Ended ∷ []

-- the items are the first of those of some transmission within the limits
pub record AreFirstItems (limits : Limits) (given : List Item) : Type 0 where
  pub value : TransmissionValue
  pub whole : IsTransmission value
  pub within : FitsIn limits value
  pub rest : List Item
  pub split : value_items value ≡ given ++ rest

-- ---- the records of items

-- the records of an item
abbrev pub item_records : Item → List RecordValue
item_records (Opened r) = r ∷ []
item_records (GroupOpened r) = r ∷ []
item_records (Transaction t) = t
item_records (GroupClosed r) = r ∷ []
item_records Ended = trailer ∷ []

-- the records of items, in order
abbrev pub records_in : List Item → List RecordValue
records_in given = flat_map item_records given

-- the item is a GRH
abbrev pub opens_group : Item → Bool
opens_group (GroupOpened r) = true
opens_group item = false

-- the item is a transaction
abbrev pub is_transaction : Item → Bool
is_transaction (Transaction t) = true
is_transaction item = false
