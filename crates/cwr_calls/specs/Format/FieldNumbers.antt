-- The fields of the layouts in numbers, as C sees them.
use Rattle.std.specs.Prelude.{◌≡◌, ◌⊎◌, ℕ, ◌≤◌, List, [], ◌∷◌, codes, ◌++◌, length, map, Option, Some, None, IsSomeAnd, slice_get}
use Rattle.std.specs.Prelude.{option_and_then, if◌then◌else◌}
use Rattle.std.specs.List.{concat}
use Rattle.cwr_fields.specs.declared.cell_types.CellType.{CellType}
use Rattle.cwr_fields.specs.declared.cell_types.CellType.TheVariants as types
use Rattle.cwr_fields.specs.Format.Bytes.{filled}
use Rattle.cwr_fields.specs.Format.Cells.{Allows}
use Rattle.cwr_fields.specs.Format.Codes.{codes_of, word_text}
use Rattle.cwr_fields.specs.declared.kinds.Kind.{Kind}
use Rattle.cwr_fields.specs.Format.Kinds.{all_kinds, kind_of, letters}
use Rattle.cwr_fields.specs.Format.Layouts.{FieldLayout, field_with_start, fields_after_type}
use Rattle.cwr_lines.specs.Format.Carried.{carried_at}
use Rattle.cwr_lines.specs.Format.Records.{blank_cell}
use Rattle.cwr_calls.specs.declared.fields.CwrField.{CwrField}
use Rattle.cwr_calls.specs.Format.Copies.{CopiesOut}

-- what a field's cells hold
abbrev pub type_number : CellType → ℕ
type_number types.Text = 1
type_number types.Required = 2
type_number types.Number = 3
type_number types.OptNumber = 4
type_number types.Date = 5
type_number types.OptDate = 6
type_number types.Time = 7
type_number types.OptTime = 8
type_number types.OptDuration = 9
type_number types.Share = 10
type_number types.Flag = 11
type_number (types.Code table) = 12
type_number (types.OptCode table) = 13
type_number (types.Constant word) = 14

-- field j of the kind that the letters name, with the byte where it starts
abbrev pub field_named : List ℕ → ℕ → Option (ℕ × FieldLayout)
field_named kind j = option_and_then (λ k. field_with_start k j) (kind_of kind)

-- the place of a field
abbrev pub field_in_c : ℕ × FieldLayout → CwrField
field_in_c p = record { start = p.0; width = p.1.width; ty = type_number p.1.ty; derived = if p.1.derived then 1 else 0 }

-- the field's place, and its name in the room; 0 where the kind has no such field, and then nothing changes
abbrev pub TellsField : List ℕ → ℕ → CwrField → CwrField → List ℕ → List ℕ → ℕ → Type 0
TellsField kind j old place room name count =
    ((field_named kind j ≡ None) × (count ≡ 0) × (place ≡ old) × (name ≡ room))
    ⊎ ((p : ℕ × FieldLayout) × (field_named kind j ≡ Some p) × (place ≡ field_in_c p) × CopiesOut p.1.name room name count)

-- the letters of kind number i, from 0, in the room; 0 where there are no more kinds, and then nothing changes
abbrev pub TellsKind : ℕ → List ℕ → List ℕ → ℕ → Type 0
TellsKind i room name count =
    ((slice_get all_kinds i ≡ None) × (count ≡ 0) × (name ≡ room))
    ⊎ ((kind : Kind) × (slice_get all_kinds i ≡ Some kind) × CopiesOut (letters kind) room name count)

-- the line of a record of the kind in which nothing was set: its letters, the words of constants, and spaces
abbrev pub blank_line : Kind → List ℕ
blank_line kind = letters kind ++ concat (map (λ f. blank_cell f.ty f.width) (fields_after_type kind))

-- that line in the room, where the letters name the kind; else 0, and then nothing changes
abbrev pub TellsBlank : List ℕ → List ℕ → List ℕ → ℕ → Type 0
TellsBlank kind room line count =
    ((kind_of kind ≡ None) × (count ≡ 0) × (line ≡ room))
    ⊎ ((k : Kind) × (kind_of kind ≡ Some k) × CopiesOut (blank_line k) room line count)

-- the text, filled up with spaces, is a cell of field j, which isn't computed
abbrev pub MayHold : Kind → ℕ → List ℕ → Type 0
MayHold kind j text = IsSomeAnd (carried_at kind j) (λ f. (length text ≤ f.width) × Allows f.ty (filled f.width text))

-- the texts that are listed of a type: its codes, its flags, or its word
abbrev pub listed_texts : CellType → List (List ℕ)
listed_texts (types.Code table) = codes_of table
listed_texts (types.OptCode table) = codes_of table
listed_texts types.Flag = codes "Y" ∷ codes "N" ∷ codes "U" ∷ []
listed_texts (types.Constant word) = word_text word ∷ []
listed_texts ty = []

-- text number i, from 0, of those that are listed of field j
abbrev pub listed_at : Kind → ℕ → ℕ → Option (List ℕ)
listed_at kind j i = option_and_then (λ p. slice_get (listed_texts p.1.ty) i) (field_with_start kind j)

-- the text in the room, where cells of field j may hold it; or none, and then nothing changes
abbrev pub PutsText : Kind → ℕ → List ℕ → List ℕ → List ℕ → ℕ → Type 0
PutsText kind j text room code count = ((count ≡ 0) × (code ≡ room)) ⊎ (MayHold kind j text × CopiesOut text room code count)

-- text number i of those that cells of field j may hold, in the room; or none, and then nothing changes
abbrev pub PutsCode : Kind → ℕ → ℕ → List ℕ → List ℕ → ℕ → Type 0
PutsCode kind j i room code count =
    ((count ≡ 0) × (code ≡ room))
    ⊎ ((text : List ℕ) × (listed_at kind j i ≡ Some text) × MayHold kind j text × CopiesOut text room code count)

-- so of the kind that the letters name; 0 where they name none
abbrev pub TellsCode : List ℕ → ℕ → ℕ → List ℕ → List ℕ → ℕ → Type 0
TellsCode letters j i room code count =
    ((kind_of letters ≡ None) × (count ≡ 0) × (code ≡ room))
    ⊎ ((kind : Kind) × (kind_of letters ≡ Some kind) × PutsCode kind j i room code count)
