-- The JSON form of a transmission: the data of a record and of an item, and which record data is.
use Rattle.std.specs.Prelude.{◌≡◌, ℕ, ◌+◌, ◌≤◌, Bool, true, false, not, ◌&&◌, ◌||◌, ◌==◌, List, [], ◌∷◌, ◌++◌, length, map, take}
use Rattle.std.specs.Prelude.{count_by, codes, decimal, Option, Some, None, if◌then◌else◌, ⊤}
use Rattle.std.specs.List.{AllZip, after_last, enumerate_from, flat_map, list_all, list_any}
use Rattle.std.specs.Str.{bytes_eq}
use Rattle.json.specs.Json.{Json, null, boolean, number, string, array, object, Items, no_items, item, Members, no_members}
use Rattle.json.specs.Json.{member}
use Rattle.json.specs.Find.{is_null}
use Rattle.json.specs.Tree.{json_tokens}
use Rattle.json.specs.Print.{print}
use Rattle.json.specs.Strict.{keys}
use Rattle.cwr_fields.specs.Format.Bytes.{is_spaces, trimmed, filled}
use Rattle.cwr_fields.specs.declared.kinds.Kind.{Kind}
use Rattle.cwr_fields.specs.Format.Kinds.{letters}
use Rattle.cwr_fields.specs.Format.Layouts.{FieldLayout}
use Rattle.cwr_lines.specs.Format.Records.{RecordValue, IsRecord, blank_cell, carried_fields}
use Rattle.cwr_values.specs.declared.items.Item.{Item}
use Rattle.cwr_values.specs.declared.items.Item.TheVariants.{Opened, GroupOpened, Transaction, GroupClosed, Ended}
use Rattle.cwr_judge.specs.Format.Items.{is_transaction, item_records, opens_group, records_in}
use Rattle.cwr_json.specs.declared.encodings.Encoding.{Encoding}
use Rattle.cwr_json.specs.declared.notes.Notes.{Notes}
use Rattle.cwr_json.specs.Format.Encodings.{characters, StandFor}

-- ---- what is written

-- a key is a field's name, with underscores for its spaces and hyphens
abbrev pub key_byte : ℕ → ℕ
key_byte b = if (b == 32) || (b == 45) then 95 else b

abbrev pub key_of : List ℕ → List ℕ
key_of name = map key_byte name

-- the key of a record's kind
abbrev pub kind_key : List ℕ
kind_key = codes "record_type"

-- the key of an item's records
abbrev pub records_key : List ℕ
records_key = codes "records"

-- a cell under its key, without trailing spaces; a blank one is left out
abbrev pub with_cell : Encoding → FieldLayout → List ℕ → Members → Members
with_cell enc f cell more = if is_spaces cell then more else member (key_of f.name) (string (characters enc (trimmed cell))) more

-- cells beside their fields
unfoldable pub cell_members : Encoding → List FieldLayout → List (List ℕ) → Members
cell_members enc [] cells = no_members
cell_members enc (f ∷ fields) [] = no_members
cell_members enc (f ∷ fields) (cell ∷ cells) = with_cell enc f cell (cell_members enc fields cells)

-- the members of a record: its kind, and its cells in the order of the layout
abbrev pub record_members : Encoding → RecordValue → Members
record_members enc r = member kind_key (string (letters r.kind)) (cell_members enc (carried_fields r.kind) r.cells)

-- the data of records
unfoldable pub records_items : Encoding → List RecordValue → Items
records_items enc [] = no_items
records_items enc (r ∷ rs) = item (object (record_members enc r)) (records_items enc rs)

-- a note is a number under a key that begins with an underscore
abbrev pub with_note : List ℕ → ℕ → Members → Members
with_note key n more = member key (number (decimal n)) more

-- where an item stands among groups and transactions
abbrev pub with_group_notes : Notes → Item → Members → Members
with_group_notes n (Opened r) more = more
with_group_notes n (GroupOpened r) more = with_note (codes "_group") n.group more
with_group_notes n (Transaction t) more = with_note (codes "_group") n.group (with_note (codes "_transaction") n.transaction more)
with_group_notes n (GroupClosed r) more = with_note (codes "_group") n.group more
with_group_notes n Ended more = more

-- the notes of an item, if it has any, before its other members
abbrev pub with_notes : Option Notes → Item → Members → Members
with_notes None i more = more
with_notes (Some n) i more = with_group_notes n i (with_note (codes "_line") n.line more)

-- the data of an item: its notes, if it has any, and its records
abbrev pub item_data : Encoding → Option Notes → Item → Json
item_data enc notes i = object (with_notes notes i (member records_key (array (records_items enc (item_records i))) no_members))

-- the line of an item: its data with no space, and a line feed
abbrev pub item_line : Encoding → Option Notes → Item → List ℕ
item_line enc notes i = print (json_tokens (item_data enc notes i)) ++ 10 ∷ []

-- what the notes of an item say, by the items before it
abbrev pub notes_after : List Item → Item → Notes
notes_after before i =
    record {
      group = count_by opens_group before + (if opens_group i then 1 else 0);
      transaction = count_by is_transaction (after_last opens_group before);
      line = length (records_in before) + 1;
    }

abbrev pub notes_if : Bool → List Item → Item → Option Notes
notes_if false before i = None
notes_if true before i = Some (notes_after before i)

-- the lines of items, with notes or without
unfoldable pub data_lines : Encoding → Bool → List Item → List ℕ
data_lines enc noted items = flat_map (λ p. item_line enc (notes_if noted (take p.0 items) p.1) p.1) (enumerate_from 0 items)

-- ---- what is read

-- a member says nothing whose value is null, and a note is one whose key begins with an underscore
abbrev pub is_note : List ℕ → Bool
is_note [] = false
is_note (b ∷ rest) = b == 95

abbrev pub says : List ℕ → Json → Bool
says k j = not (is_null j) && not (is_note k)

-- the members that say something
unfoldable pub told : Members → Members
told no_members = no_members
told (member k j ms) = if says k j then member k j (told ms) else told ms

-- the value of the first member of that key
unfoldable pub first_of : List ℕ → Members → Option Json
first_of k no_members = None
first_of k (member l j ms) = if bytes_eq k l then Some j else first_of k ms

-- the key is that of the kind, or of a field that the kind carries
abbrev pub is_known : Kind → List ℕ → Bool
is_known kind k = bytes_eq k kind_key || list_any (λ f. bytes_eq k (key_of f.name)) (carried_fields kind)

-- no key comes twice
abbrev pub are_distinct : List (List ℕ) → Bool
are_distinct [] = true
are_distinct (k ∷ ks) = not (list_any (bytes_eq k) ks) && are_distinct ks

-- the value stands for the cell of a field: a text of characters that stand for bytes, filled up with spaces; without one the
-- cell is as in a blank record
abbrev pub IsCellFrom : Encoding → FieldLayout → Option Json → List ℕ → Type 0
IsCellFrom enc f None cell = cell ≡ blank_cell f.ty f.width
IsCellFrom enc f (Some null) cell = ⊥
IsCellFrom enc f (Some (boolean b)) cell = ⊥
IsCellFrom enc f (Some (number s)) cell = ⊥
IsCellFrom enc f (Some (string s)) cell =
    (text : List ℕ) × StandFor enc s text × (length text ≤ f.width) × (cell ≡ filled f.width text)
IsCellFrom enc f (Some (array js)) cell = ⊥
IsCellFrom enc f (Some (object ms)) cell = ⊥

-- The members, of those that say something, are data of the record: one names its kind, each other is of a field that the kind
-- carries, none comes twice, and each cell is from its field's value.
pub record IsDataOf (enc : Encoding) (ms : Members) (r : RecordValue) : Type 0 where
  pub kind : first_of kind_key ms ≡ Some (string (letters r.kind))
  pub known : list_all (is_known r.kind) (keys ms) ≡ true
  pub once : are_distinct (keys ms) ≡ true
  pub cells : AllZip (λ f cell. IsCellFrom enc f (first_of (key_of f.name) ms) cell) (carried_fields r.kind) r.cells
  pub fits : IsRecord r

-- data of the record
abbrev pub IsRecordData : Encoding → Json → RecordValue → Type 0
IsRecordData enc null r = ⊥
IsRecordData enc (boolean b) r = ⊥
IsRecordData enc (number s) r = ⊥
IsRecordData enc (string s) r = ⊥
IsRecordData enc (array js) r = ⊥
IsRecordData enc (object ms) r = IsDataOf enc (told ms) r

-- data of records, one by one
unfoldable pub AreRecordsData : Encoding → Items → List RecordValue → Type 0
AreRecordsData enc no_items [] = ⊤
AreRecordsData enc no_items (r ∷ rs) = ⊥
AreRecordsData enc (item j js) [] = ⊥
AreRecordsData enc (item j js) (r ∷ rs) = IsRecordData enc j r × AreRecordsData enc js rs

abbrev pub AreListData : Encoding → Json → List RecordValue → Type 0
AreListData enc null rs = ⊥
AreListData enc (boolean b) rs = ⊥
AreListData enc (number s) rs = ⊥
AreListData enc (string s) rs = ⊥
AreListData enc (array js) rs = AreRecordsData enc js rs
AreListData enc (object ms) rs = ⊥

-- the one member that says something is the list of the records
abbrev pub AreOnlyRecords : Encoding → Members → List RecordValue → Type 0
AreOnlyRecords enc no_members rs = ⊥
AreOnlyRecords enc (member k j no_members) rs = (k ≡ records_key) × AreListData enc j rs
AreOnlyRecords enc (member k j (member l i ms)) rs = ⊥

-- the line's data is of an item with these records
abbrev pub IsItemData : Encoding → Json → List RecordValue → Type 0
IsItemData enc null rs = ⊥
IsItemData enc (boolean b) rs = ⊥
IsItemData enc (number s) rs = ⊥
IsItemData enc (string s) rs = ⊥
IsItemData enc (array js) rs = ⊥
IsItemData enc (object ms) rs = AreOnlyRecords enc (told ms) rs
