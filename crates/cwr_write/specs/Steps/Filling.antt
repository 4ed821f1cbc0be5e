-- A draft that members fill.
use Rattle.std.specs.Prelude.{◌≡◌, ℕ, ◌≤◌, ◌<◌, Bool, true, false, List, ◌++◌, length, take, get_or, Option, None, option_map, unwrap_or, IsSomeAnd}
use Rattle.std.specs.Prelude.{MatchOption, if◌then◌else◌}
use Rattle.std.specs.List.{AllZip, list_all, list_any}
use Rattle.std.specs.Str.{bytes_eq}
use Rattle.json.specs.Json.{Json, string, Members, no_members, member}
use Rattle.json.specs.Strict.{keys}
use Rattle.cwr_fields.specs.Format.Bytes.{filled}
use Rattle.cwr_fields.specs.Format.Cells.{Allows, HasFault}
use Rattle.cwr_fields.specs.declared.kinds.Kind.{Kind}
use Rattle.cwr_lines.specs.Format.Carried.{HasCellFault, carried_at}
use Rattle.cwr_write.specs.declared.refusals.Key.{Key}
use Rattle.cwr_write.specs.declared.refusals.Key.TheVariants as said_of
use Rattle.cwr_write.specs.declared.refusals.Why.{Why}
use Rattle.cwr_write.specs.declared.refusals.Why.TheVariants.{Cell, Computed, TooWide, UnknownKey}
use Rattle.cwr_fields.specs.Format.Layouts.{field_at}
use Rattle.cwr_lines.specs.Format.Records.{RecordValue, carried_fields}
use Rattle.cwr_json.specs.declared.encodings.Encoding.{Encoding}
use Rattle.cwr_json.specs.Format.Encodings.{StandFor, character}
use Rattle.cwr_write.specs.Format.Faults.{IsMemberReason}
use Rattle.cwr_json.specs.Format.Forms.{IsCellFrom, IsDataOf, are_distinct, first_of, is_known, key_of, says}

-- the kind has a field j, and that has the key
abbrev pub names_field : Kind → ℕ → List ℕ → Bool
names_field kind j k = unwrap_or (option_map (λ f. bytes_eq k (key_of f.name)) (field_at kind j)) false

-- members, and one more after them
unfoldable pub with_last : Members → List ℕ → Json → Members
with_last no_members k j = member k j no_members
with_last (member l i ms) k j = member l i (with_last ms k j)

-- The draft, of that kind, has the cells that the members give, and each other as it is in a blank record. Each of their keys is
-- known, none comes twice, and a field is marked exactly where its key is one of theirs.
pub record IsFilled (enc : Encoding) (kind : Kind) (ms : Members) (draft : RecordValue) (seen : List Bool) : Type 0 where
  pub kind_is : draft.kind ≡ kind
  pub known : list_all (is_known kind) (keys ms) ≡ true
  pub once : are_distinct (keys ms) ≡ true
  pub cells : AllZip (λ f cell. IsCellFrom enc f (first_of (key_of f.name) ms) cell) (carried_fields kind) draft.cells
  pub marks : (j : ℕ) (k : List ℕ) → names_field kind j k ≡ true → get_or seen j false ≡ false
      → list_any (bytes_eq k) (keys ms) ≡ false
  pub marked : (j : ℕ) (k : List ℕ) → names_field kind j k ≡ true → get_or seen j false ≡ true
      → list_any (bytes_eq k) (keys ms) ≡ true

-- the value is a text of characters that stand for the bytes
abbrev pub IsTextOf : Encoding → Json → List ℕ → Type 0
IsTextOf enc j bytes = (s : List ℕ) × (j ≡ string s) × StandFor enc s bytes

-- the text, filled up with spaces, is a cell of field j
abbrev pub FitsField : Kind → ℕ → List ℕ → Type 0
FitsField kind j text = IsSomeAnd (carried_at kind j) (λ f. (length text ≤ f.width) × Allows f.ty (filled f.width text))

-- why the text isn't set as a cell of field j, which isn't computed
abbrev pub IsBytesReason : Kind → ℕ → List ℕ → Why → Type 0
IsBytesReason this_kind j text UnknownKey = field_at this_kind j ≡ None
IsBytesReason this_kind j text Computed = IsSomeAnd (field_at this_kind j) (λ f. f.derived ≡ true)
IsBytesReason this_kind j text TooWide = IsSomeAnd (carried_at this_kind j) (λ f. f.width < length text)
IsBytesReason this_kind j text (Cell fault) =
    IsSomeAnd (carried_at this_kind j) (λ f. (length text ≤ f.width) × HasFault f.ty (filled f.width text) fault)
IsBytesReason this_kind j text why = ⊥

-- members, and others after them
unfoldable pub joined : Members → Members → Members
joined no_members more = more
joined (member k j ms) more = member k j (joined ms more)

-- members that begin so are data of no record of the kind
abbrev pub NoneFrom : Encoding → Kind → Members → Type 0
NoneFrom enc kind ms = (rest : Members) (r : RecordValue) → r.kind ≡ kind → ¬ IsDataOf enc (joined ms rest) r

-- a cell of a draft isn't one of its field: of which field, and why
abbrev pub IsDraftReason : RecordValue → Key → Why → Type 0
IsDraftReason draft (said_of.Field j) (Cell fault) = HasCellFault draft j fault
IsDraftReason draft key why = ⊥

-- members, and one more after them where it says something
abbrev pub with_told : Members → List ℕ → Json → Members
with_told ms k j = if says k j then with_last ms k j else ms

-- that is so of whatever members fill the draft
abbrev pub OfFilled : Encoding → Kind → RecordValue → List Bool → (Members → Type 0) → Type 0
OfFilled enc kind draft seen P = (ms : Members) → IsFilled enc kind ms draft seen → P ms

-- where members fill the one draft, these and what is more fill the other
abbrev pub FillsOn : Encoding → Kind → (Members → Members) → RecordValue → List Bool → RecordValue → List Bool → Type 0
FillsOn enc kind more draft seen filled marked = OfFilled enc kind draft seen (λ ms. IsFilled enc kind (more ms) filled marked)

-- that is why these members aren't data of a record, whatever others follow them
abbrev pub IsReasonOfFilled : Encoding → Kind → RecordValue → List Bool → (Members → Members) → Key → Why → Type 0
IsReasonOfFilled enc kind draft seen more key why =
    (ms rest : Members) → IsFilled enc kind ms draft seen → IsMemberReason enc kind (joined (more ms) rest) key why

-- the byte that the first character of a text stands for, and how many bytes that has; none where no character comes that stands for one
abbrev pub IsFirstByte : Encoding → List ℕ → Option (ℕ × ℕ) → Type 0
IsFirstByte enc text found =
    MatchOption found ((b : ℕ) (rest : List ℕ) → b < 256 → ¬ (text ≡ character enc b ++ rest))
    (λ p. (0 < p.1) × (p.1 ≤ length text) × (character enc p.0 ≡ take p.1 text) × (p.0 < 256))
