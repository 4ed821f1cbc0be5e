-- The text of a record's data, cell by cell.
use Rattle.std.specs.Prelude.{◌≡◌, ℕ, zero, suc, List, [], ◌++◌, codes, decimal, Option, Some, None}
use Rattle.std.specs.Prelude.{if◌then◌else◌}
use Rattle.std.specs.List.{enumerate_from, flat_map, zip}
use Rattle.json.specs.Print.{escape}
use Rattle.cwr_fields.specs.Format.Bytes.{is_spaces, trimmed}
use Rattle.cwr_fields.specs.declared.kinds.Kind.{Kind}
use Rattle.cwr_fields.specs.Format.Kinds.{letters}
use Rattle.cwr_fields.specs.Format.Layouts.{FieldLayout}
use Rattle.cwr_lines.specs.Format.Records.{RecordValue, carried_fields}
use Rattle.cwr_lines.specs.Format.Carried.{carried_at, record_cell}
use Rattle.cwr_values.specs.declared.items.Item.{Item}
use Rattle.cwr_values.specs.declared.items.Item.TheVariants.{Opened, GroupOpened, Transaction, GroupClosed, Ended}
use Rattle.cwr_judge.specs.Format.Items.{item_records}
use Rattle.cwr_json.specs.declared.notes.Notes.{Notes}
use Rattle.cwr_json.specs.declared.encodings.Encoding.{Encoding}
use Rattle.cwr_json.specs.Format.Encodings.{byte_by_byte, character, characters}
use Rattle.cwr_json.specs.Format.Forms.{key_of}

-- bytes as they stand between quotes
abbrev pub spelled : Encoding → List ℕ → List ℕ
spelled enc bytes = escape (characters enc bytes)

-- a byte that is shown by one character
abbrev pub spelled_byte : Encoding → ℕ → List ℕ
spelled_byte enc b = escape (character enc b)

abbrev pub spelled_bytes : Encoding → List ℕ → List ℕ
spelled_bytes enc bytes = flat_map (spelled_byte enc) bytes

-- each byte stands for itself, whatever the encoding
pub record IsSimple (bytes : List ℕ) : Type 0 where
  pub marks : escape bytes ≡ bytes
  pub low : (enc : Encoding) → byte_by_byte enc bytes ≡ bytes

-- a cell as a member after others, unless it is blank
abbrev pub member_text : Encoding → FieldLayout → List ℕ → List ℕ
member_text enc f cell =
    if is_spaces cell then [] else codes ",\"" ++ key_of f.name ++ codes "\":\"" ++ spelled enc (trimmed cell) ++ codes "\""

-- the cells beside their fields
abbrev pub members_beside : Encoding → List FieldLayout → List (List ℕ) → List ℕ
members_beside enc fields cells = flat_map (λ p. member_text enc p.0 p.1) (zip fields cells)

-- the cells of a record
unfoldable pub member_texts : Encoding → RecordValue → List ℕ
member_texts enc r = members_beside enc (carried_fields r.kind) r.cells

-- the kind of a record, as the first member
abbrev pub head_text : Kind → List ℕ
head_text kind = codes "{\"record_type\":\"" ++ letters kind ++ codes "\""

-- a record
abbrev pub record_text : Encoding → RecordValue → List ℕ
record_text enc r = head_text r.kind ++ member_texts enc r ++ codes "}"

-- the member of a field, where the record carries one
abbrev pub member_of : Encoding → Option FieldLayout → Option (List ℕ) → List ℕ
member_of enc (Some f) (Some cell) = member_text enc f cell
member_of enc f cell = []

abbrev pub field_member : Encoding → RecordValue → ℕ → List ℕ
field_member enc r j = member_of enc (carried_at r.kind j) (record_cell r j)

-- ---- an item

-- a note by its key, and a comma
abbrev pub note_text : List ℕ → ℕ → List ℕ
note_text key n = key ++ decimal n ++ codes ","

-- the notes that say where it stands among groups and transactions
abbrev pub group_notes_text : Notes → Item → List ℕ
group_notes_text n (Opened r) = []
group_notes_text n (GroupOpened r) = note_text (codes "\"_group\":") n.group
group_notes_text n (Transaction t) =
    note_text (codes "\"_group\":") n.group ++ note_text (codes "\"_transaction\":") n.transaction
group_notes_text n (GroupClosed r) = note_text (codes "\"_group\":") n.group
group_notes_text n Ended = []

-- its notes, if it has any
abbrev pub notes_text : Option Notes → Item → List ℕ
notes_text None item = []
notes_text (Some n) item = group_notes_text n item ++ note_text (codes "\"_line\":") n.line

-- what stands before its records
abbrev pub opening_text : Option Notes → Item → List ℕ
opening_text notes item = codes "{" ++ notes_text notes item ++ codes "\"records\":["

-- a record after others in its item, so many
abbrev pub listed_text : Encoding → ℕ → RecordValue → List ℕ
listed_text enc zero r = record_text enc r
listed_text enc (suc before) r = codes "," ++ record_text enc r

-- records, of which so many stand before
abbrev pub listed_texts : Encoding → ℕ → List RecordValue → List ℕ
listed_texts enc before rs = flat_map (λ p. listed_text enc p.0 p.1) (enumerate_from before rs)

-- the line of an item
abbrev pub item_text : Encoding → Option Notes → Item → List ℕ
item_text enc notes item = (opening_text notes item ++ listed_texts enc 0 (item_records item)) ++ codes "]}\n"
