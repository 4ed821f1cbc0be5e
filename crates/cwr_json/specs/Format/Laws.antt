-- What the laws say.
use Rattle.std.specs.Prelude.{◌≡◌, ℕ, ◌<◌, ◌^◌, List, Option, Some, IfSome}
use Rattle.std.specs.List.{AllByRecursion}
use Rattle.json.specs.Json.{Json, document}
use Rattle.json.specs.Tree.{json_tokens}
use Rattle.json.specs.Print.{print}
use Rattle.cwr_lines.specs.Format.Records.{RecordValue, IsRecord}
use Rattle.cwr_values.specs.declared.items.Item.{Item}
use Rattle.cwr_judge.specs.Format.Items.{item_records}
use Rattle.cwr_json.specs.declared.encodings.Encoding.{Encoding}
use Rattle.cwr_json.specs.declared.notes.Notes.{Notes}
use Rattle.cwr_json.specs.Format.Encodings.{StandFor, characters}
use Rattle.cwr_json.specs.Format.Forms.{IsItemData, item_data}

-- The characters that bytes are shown as stand for these bytes.
abbrev pub BytesReadBack : Type 0
BytesReadBack = (enc : Encoding) (bytes : List ℕ) → StandFor enc (characters enc bytes) bytes

-- Characters stand for no other bytes.
abbrev pub OneText : Type 0
OneText = (enc : Encoding) (shown bytes others : List ℕ) → StandFor enc shown bytes → StandFor enc shown others → bytes ≡ others

-- the numbers of notes are below 2 ^ 64
abbrev pub AreBelow : Notes → Type 0
AreBelow n = (n.group < 2 ^ 64) × (n.transaction < 2 ^ 64) × (n.line < 2 ^ 64)

-- the data of an item, printed, is JSON, and reads back as that data
abbrev pub LinesReadBack : Type 0
LinesReadBack =
    (enc : Encoding) (notes : Option Notes) (item : Item) → IfSome notes AreBelow
    → document (print (json_tokens (item_data enc notes item))) ≡ Some (item_data enc notes item)

-- the data of an item is data of its records, with notes or without
abbrev pub OwnData : Type 0
OwnData =
    (enc : Encoding) (notes : Option Notes) (item : Item) → AllByRecursion IsRecord (item_records item)
    → IsItemData enc (item_data enc notes item) (item_records item)

-- data is of no other records
abbrev pub OneData : Type 0
OneData =
    (enc : Encoding) (data_of : Json) (records others : List RecordValue) → IsItemData enc data_of records
    → IsItemData enc data_of others → records ≡ others
