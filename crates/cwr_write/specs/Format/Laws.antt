-- What the laws say of both directions.
use Rattle.std.specs.Prelude.{◌≡◌, ℕ, ◌-◌, ◌<◌, ◌^◌, Bool, List, length, map, take}
use Rattle.std.specs.List.{enumerate_from}
use Rattle.json.specs.Print.{print}
use Rattle.json.specs.Tree.{json_tokens}
use Rattle.cwr_values.specs.Format.Values.{TransmissionValue, IsTransmission}
use Rattle.cwr_values.specs.Format.Rows.{records_of}
use Rattle.cwr_values.specs.declared.items.Item.{Item}
use Rattle.cwr_judge.specs.Format.Items.{value_items}
use Rattle.cwr_json.specs.declared.encodings.Encoding.{Encoding}
use Rattle.cwr_json.specs.Format.Forms.{data_lines, item_data, notes_if}
use Rattle.cwr_write.specs.Format.Endings.{AreShort, SaysTransmission}

-- the lines that `json` writes of items, with notes or without, each without its line feed
abbrev pub item_texts : Encoding → Bool → List Item → List (List ℕ)
item_texts enc noted items =
    map (λ p. print (json_tokens (item_data enc (notes_if noted (take p.0 items) p.1) p.1))) (enumerate_from 0 items)

-- What `json` writes of a transmission is data of its items, where none of the lines has more bytes than a line may have.
abbrev pub OwnLines : Type 0
OwnLines =
    (enc : Encoding) (noted : Bool) (most : ℕ) (v : TransmissionValue) → IsTransmission v → length (records_of v) < 2 ^ 64 - 1
    → AreShort most (item_texts enc noted (value_items v)) → SaysTransmission enc most (data_lines enc noted (value_items v)) v

-- lines are data of no other transmission
abbrev pub OneTransmission : Type 0
OneTransmission =
    (enc : Encoding) (most others : ℕ) (text : List ℕ) (v w : TransmissionValue) → IsTransmission v → IsTransmission w
    → SaysTransmission enc most text v → SaysTransmission enc others text w → v ≡ w
