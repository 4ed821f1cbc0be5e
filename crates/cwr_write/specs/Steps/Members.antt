-- Members and values of a line, by where they stand.
use Rattle.std.specs.Prelude.{◌≡◌, ℕ, ◌<◌, true, List, ◌∷◌, length, get_or}
use Rattle.std.specs.Borrow.{Bor}
use Rattle.json.specs.Json.{no_members, member}
use Rattle.json.specs.declared.value.Value.{Value}
use Rattle.json.specs.Value.{members_view, value_view}
use Rattle.cwr_fields.specs.declared.kinds.Kind.TheVariants.{Hdr, Grh, Grt}
use Rattle.cwr_lines.specs.Format.Records.{RecordValue}
use Rattle.cwr_values.specs.declared.items.Item.{Item}
use Rattle.cwr_values.specs.declared.items.Item.TheVariants.{Opened, GroupOpened, Transaction, GroupClosed, Ended}
use Rattle.cwr_json.specs.declared.encodings.Encoding.{Encoding}
use Rattle.cwr_json.specs.Format.Forms.{IsRecordData, says, told}
use Rattle.cwr_write.specs.Format.AloneKinds.{IsAlone}

-- the member there says something
abbrev pub SaysAt : {A : Type 0} → List (Bor (List ℕ) × Value A) → ℕ → Type 0
SaysAt {A} items at = (m : Bor (List ℕ) × Value A) → m ≡ get_or items at m → says m.0.now (value_view m.1) ≡ true

-- the member there has that key, and no other says something
pub record IsOnlyAt {A : Type 0} (items : List (Bor (List ℕ) × Value A)) (key : List ℕ) (at : ℕ) : Type 0 where
  pub found : Bor (List ℕ) × Value A
  pub within : at < length items
  pub is : found ≡ get_or items at found
  pub only : told (members_view items) ≡ member key (value_view found.1) no_members

-- the value there is data of the record
pub record IsDataAt {A : Type 0} (enc : Encoding) (values : List (Value A)) (at : ℕ) (r : RecordValue) : Type 0 where
  pub found : Value A
  pub within : at < length values
  pub is : found ≡ get_or values at found
  pub is_data : IsRecordData enc (value_view found) r

-- the item has its record's kind, and a transaction begins with a record that isn't an item alone
abbrev pub IsKinded : Item → Type 0
IsKinded (Opened r) = r.kind ≡ Hdr
IsKinded (GroupOpened r) = r.kind ≡ Grh
IsKinded (Transaction t) = (r : RecordValue) × (rest : List RecordValue) × (t ≡ r ∷ rest) × ¬ IsAlone r.kind
IsKinded (GroupClosed r) = r.kind ≡ Grt
IsKinded Ended = Unit {0}
