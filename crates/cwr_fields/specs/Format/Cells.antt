-- What the cells of each type hold, and the fault of a text that a type doesn't hold.
use Rattle.std.specs.Prelude.{◌≡◌, ℕ, ◌<◌, ◌≤◌, ◌^◌, ◌⊎◌, IsTrue, IsFalse, List, [], ◌∷◌, ◌++◌, length, replicate, codes, Option}
use Rattle.std.specs.Prelude.{Some, None, pos, if◌then◌else◌}
use Rattle.std.specs.List.{IsAmong}
use Rattle.jiff.specs.Words.{IsDate}
use Rattle.cwr_fields.specs.declared.cell_types.CellType.{CellType}
use Rattle.cwr_fields.specs.declared.cell_types.CellType.TheVariants.{Text, Required, Number, OptNumber, Date, OptDate, Time}
use Rattle.cwr_fields.specs.declared.cell_types.CellType.TheVariants.{OptTime, OptDuration, Share, Flag, Code, OptCode, Constant}
use Rattle.cwr_fields.specs.declared.cell_types.CellFault.{CellFault}
use Rattle.cwr_fields.specs.declared.cell_types.CellFault.TheVariants.{Blank, Control, NotDigits, NotADate, NotATime, OverShare}
use Rattle.cwr_fields.specs.declared.cell_types.CellFault.TheVariants.{NotACode, NotConstant}
use Rattle.cwr_fields.specs.declared.tables.Table.{Table}
use Rattle.cwr_fields.specs.declared.tables.Table.TheVariants as tables
use Rattle.cwr_fields.specs.Format.Bytes.{is_spaces, is_plain, has_control, are_digits, digits, filled}
use Rattle.cwr_fields.specs.Format.Codes.{code_width, codes_of, word_text}

-- the cell spells a number, in as many digits as it is wide, at least one
abbrev pub SpellsNumber : List ℕ → Type 0
SpellsNumber cell = (n : ℕ) × (0 < length cell) × (n < 10 ^ length cell) × (cell ≡ digits (length cell) n)

-- YYYYMMDD: the cell spells a day of the proleptic Gregorian calendar, in a year from 1 to 9999
abbrev pub SpellsDay : List ℕ → Type 0
SpellsDay cell = (year : ℕ) × (month : ℕ) × (day : ℕ) × (0 < year) × IsDate (pos year) (pos month) (pos day)
    × (cell ≡ digits 4 year ++ digits 2 month ++ digits 2 day)

-- HHMMSS: the cell spells hours below a bound, minutes and seconds
abbrev pub SpellsTime : ℕ → List ℕ → Type 0
SpellsTime bound cell = (hours : ℕ) × (minutes : ℕ) × (seconds : ℕ) × (hours < bound) × (minutes < 60) × (seconds < 60)
    × (cell ≡ digits 2 hours ++ digits 2 minutes ++ digits 2 seconds)

-- the cell spells hundredths of a percent, at most the whole
abbrev pub SpellsShare : List ℕ → Type 0
SpellsShare cell = (n : ℕ) × (n ≤ 10000) × (cell ≡ digits 5 n)

-- the cell is a code, filled up with spaces
abbrev pub IsCodeOf : List (List ℕ) → ℕ → List ℕ → Type 0
IsCodeOf list width cell = (code : List ℕ) × IsAmong list code × (cell ≡ filled width code)

-- the cell is a code of the table
abbrev pub SpellsCode : Table → List ℕ → Type 0
SpellsCode tables.Sender cell = IsCodeOf (codes_of tables.Sender) 2 cell ⊎ (n : ℕ) × (n < 100) × (cell ≡ digits 2 n)
SpellsCode table cell = IsCodeOf (codes_of table) (code_width table) cell

-- yes, no, unknown, or nothing
abbrev pub flag_texts : List (List ℕ)
flag_texts = codes "Y" ∷ codes "N" ∷ codes "U" ∷ codes " " ∷ []

-- the cell is one of the type
abbrev pub Allows : CellType → List ℕ → Type 0
Allows Text cell = IsTrue (is_plain cell)
Allows Required cell = IsTrue (is_plain cell) × IsFalse (is_spaces cell)
Allows Number cell = SpellsNumber cell
Allows OptNumber cell = IsTrue (is_spaces cell) ⊎ SpellsNumber cell
Allows Date cell = SpellsDay cell
Allows OptDate cell = (cell ≡ replicate 8 32) ⊎ (cell ≡ replicate 8 48) ⊎ SpellsDay cell
Allows Time cell = SpellsTime 24 cell
Allows OptTime cell = (cell ≡ replicate 6 32) ⊎ SpellsTime 24 cell
Allows OptDuration cell = (cell ≡ replicate 6 32) ⊎ SpellsTime 100 cell
Allows Share cell = (cell ≡ replicate 5 32) ⊎ SpellsShare cell
Allows Flag cell = IsAmong flag_texts cell
Allows (Code table) cell = SpellsCode table cell
Allows (OptCode table) cell = (cell ≡ replicate (code_width table) 32) ⊎ SpellsCode table cell
Allows (Constant word) cell = cell ≡ word_text word

-- the fault of a text that the type doesn't hold
abbrev pub fault_of : CellType → List ℕ → CellFault
fault_of Text cell = Control
fault_of Required cell = if has_control cell then Control else Blank
fault_of Number cell = if is_spaces cell then Blank else NotDigits
fault_of OptNumber cell = NotDigits
fault_of Date cell = if is_spaces cell then Blank else NotADate
fault_of OptDate cell = NotADate
fault_of Time cell = if is_spaces cell then Blank else NotATime
fault_of OptTime cell = NotATime
fault_of OptDuration cell = NotATime
fault_of Share cell = if are_digits cell then OverShare else NotDigits
fault_of Flag cell = NotACode
fault_of (Code table) cell = if is_spaces cell then Blank else NotACode
fault_of (OptCode table) cell = NotACode
fault_of (Constant word) cell = NotConstant

-- the cell has the fault: the type doesn't hold it, and this is the fault that is reported
abbrev pub HasFault : CellType → List ℕ → CellFault → Type 0
HasFault ty cell fault = ¬ Allows ty cell × (fault ≡ fault_of ty cell)

-- the width of a type's cells, where it has one
abbrev pub type_width : CellType → Option ℕ
type_width Date = Some 8
type_width OptDate = Some 8
type_width Time = Some 6
type_width OptTime = Some 6
type_width OptDuration = Some 6
type_width Share = Some 5
type_width Flag = Some 1
type_width (Code table) = Some (code_width table)
type_width (OptCode table) = Some (code_width table)
type_width (Constant word) = Some 5
type_width ty = None
