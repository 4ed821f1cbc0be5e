-- What may stand in a cell, in words.
use Rattle.std.specs.Prelude.{ℕ, ◌==◌, List, [], ◌∷◌, ◌++◌, codes, decimal, flat_map, if◌then◌else◌}
use denote.Bor.{Bor}
use Rattle.cwr_fields.specs.declared.cell_types.CellType.{CellType}
use Rattle.cwr_fields.specs.declared.cell_types.CellType.TheVariants.{Text, Required, Number, OptNumber, Date, OptDate, Time}
use Rattle.cwr_fields.specs.declared.cell_types.CellType.TheVariants.{OptTime, OptDuration, Share, Flag, Code, OptCode, Constant}
use Rattle.cwr_fields.specs.declared.tables.Table.{Table}
use Rattle.cwr_fields.specs.declared.tables.Table.TheVariants as tables
use Rattle.cwr_fields.specs.declared.kinds.Kind.{Kind}
use Rattle.cwr_fields.specs.declared.kinds.Kind.TheVariants.{Grh, Grt, Trl}
use Rattle.cwr_fields.specs.Format.Codes.{codes_of, word_text}

-- a code after a space
abbrev pub spaced : List ℕ → List ℕ
spaced code = 32 ∷ code

-- so is that of a member
abbrev pub spaced_code : {C : Type 0} → C × Bor (List ℕ) → List ℕ
spaced_code p = spaced p.1.now

-- a sender type may also be two digits
abbrev pub other_codes : Table → List ℕ
other_codes tables.Sender = codes ", or two digits"
other_codes table = []

-- the codes of a table, each after a space
abbrev pub listed_words : Table → List ℕ
listed_words table = flat_map spaced (codes_of table) ++ other_codes table

-- that a code of a table may stand there
unfoldable pub table_words : Table → List ℕ
table_words table = codes "a code, one of:" ++ listed_words table

-- what a cell of the width and type may hold
unfoldable pub type_words : ℕ → CellType → List ℕ
type_words width Text = codes "text without control bytes"
type_words width Required = codes "text without control bytes, and not blank"
type_words width Number = decimal width ++ codes " digits"
type_words width OptNumber = decimal width ++ codes " digits, or spaces"
type_words width Date = codes "a date, YYYYMMDD"
type_words width OptDate = codes "a date, YYYYMMDD, or zeros or spaces for none"
type_words width Time = codes "a time, HHMMSS, from 000000 to 235959"
type_words width OptTime = codes "a time, HHMMSS, from 000000 to 235959, or spaces"
type_words width OptDuration = codes "a duration, HHMMSS, from 000000 to 995959, or spaces"
type_words width Share = codes "a share in hundredths of a percent, five digits from 00000 to 10000 (05000 is half), or spaces"
type_words width Flag = codes "Y, N, U or a space"
type_words width (Code table) = table_words table
type_words width (OptCode table) = table_words table ++ codes ", or spaces"
type_words width (Constant word) = word_text word ++ codes ", and nothing else"

-- what is counted in field j of a kind, from 1, where that is a number of the file's own
unfoldable pub counted_words : Kind → ℕ → List ℕ
counted_words Grh j = codes "the group's number in the file, from 1"
counted_words Grt j =
    if j == 2 then codes "the number of the group that it ends"
    else (if j == 3 then codes "the transactions of the group" else codes "the records of the group, GRH and GRT counted")
counted_words Trl j =
    if j == 2 then codes "the groups of the file"
    else (if j == 3 then codes "the transactions of the file" else codes "all records of the file, HDR and TRL counted")
counted_words this_kind j =
    if j == 2 then codes "the transaction's number in its group, from 0"
    else codes "the record's number in its transaction, from 0"
