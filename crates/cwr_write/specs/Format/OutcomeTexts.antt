-- What is said of how a write ended: of a transmission its numbers, of a refusal the line, its record, the key and the reason, and below
-- that what helps.
use Rattle.std.specs.Prelude.{ℕ, ◌/◌, ◌%◌, ◌==◌, ◌&&◌, nat_le, nat_lt, Bool, true, false, List, [], ◌∷◌, ◌++◌, codes, decimal, flat_map}
use Rattle.std.specs.Prelude.{slice_index, Option, Some, None, Result, Ok, Err, if◌then◌else◌}
use Rattle.std.specs.List.{concat}
use Rattle.cwr_fields.specs.declared.kinds.Kind.{Kind}
use Rattle.cwr_fields.specs.Format.FaultTexts.{fault_text}
use Rattle.cwr_fields.specs.Format.Kinds.{letters}
use Rattle.cwr_fields.specs.Format.Layouts.{FieldLayout, field_at, layout}
use Rattle.cwr_shape.specs.declared.limits.LimitKind.TheVariants as limits
use Rattle.cwr_json.specs.declared.encodings.Encoding.{Encoding}
use Rattle.cwr_json.specs.declared.encodings.Encoding.TheVariants.{Latin1, Utf8}
use Rattle.cwr_json.specs.Format.Forms.{key_of}
use Rattle.cwr_write.specs.declared.hints.Lack.{Lack}
use Rattle.cwr_write.specs.declared.hints.Lack.TheVariants as lacks
use Rattle.cwr_write.specs.declared.refusals.Key.{Key}
use Rattle.cwr_write.specs.declared.refusals.Key.TheVariants as said_of
use Rattle.cwr_write.specs.declared.refusals.LineFault.{LineFault}
use Rattle.cwr_write.specs.declared.refusals.Refusal.{Refusal}
use Rattle.cwr_write.specs.declared.refusals.Why.{Why}
use Rattle.cwr_write.specs.declared.refusals.Why.TheVariants.{NotJson, NotAnObject, UnknownKey, Repeated, Missing, NotAList}
use Rattle.cwr_write.specs.declared.refusals.Why.TheVariants.{Empty, NotText, UnknownKind, Computed, NotAByte, TooWide, Cell}
use Rattle.cwr_write.specs.declared.refusals.Why.TheVariants.{Misplaced, Alone, OutOfOrder, WrongKind, Incomplete, Limit, TooLong}
use Rattle.cwr_write.specs.declared.writing.WriteFault.{WriteFault}
use Rattle.cwr_write.specs.declared.writing.WriteFault.TheVariants.{Refused, Early}
use Rattle.cwr_write.specs.declared.writing.Written.{Written}

-- ---- keys

-- a digit of sixteen
abbrev pub hex_digit : ℕ → ℕ
hex_digit n = slice_index (codes "0123456789abcdef") n

-- a byte as it is where it is printable, and else by its number
abbrev pub printable_byte : ℕ → List ℕ
printable_byte b =
    if nat_le 32 b && nat_lt b 127 then b ∷ []
    else concat (codes "\\x" ∷ (hex_digit (b / 16) ∷ hex_digit (b % 16) ∷ []) ∷ [])

-- a byte of a key, where tabs, line ends, quotes and backslashes have a backslash before them
abbrev pub shown_byte : ℕ → List ℕ
shown_byte b =
    if b == 9 then codes "\\t"
    else (if b == 10 then codes "\\n"
    else (if b == 13 then codes "\\r"
    else (if b == 34 then codes "\\\"" else (if b == 39 then codes "\\'" else (if b == 92 then codes "\\\\" else printable_byte b)))))

-- the first bytes of a key, in quotes
abbrev pub quoted_key : List ℕ → List ℕ
quoted_key text = codes " \"" ++ flat_map shown_byte text ++ codes "\""

-- the key of a field, where there is that field
abbrev pub key_if : Option FieldLayout → List ℕ
key_if None = []
key_if (Some f) = key_of f.name

abbrev pub field_key : Kind → ℕ → List ℕ
field_key this_kind j = key_if (field_at this_kind j)

-- ---- a refusal

-- why
abbrev pub why_words : Why → List ℕ
why_words NotJson = codes "not JSON"
why_words NotAnObject = codes "not an object"
why_words UnknownKey = codes "unknown key"
why_words Repeated = codes "stands twice"
why_words Missing = codes "missing"
why_words NotAList = codes "not a list"
why_words Empty = codes "empty"
why_words NotText = codes "not text"
why_words UnknownKind = codes "no record type of this profile"
why_words Computed = codes "computed, leave it out"
why_words NotAByte = codes "a character that is no byte"
why_words TooWide = codes "wider than the field"
why_words (Cell fault) = fault_text fault
why_words Misplaced = codes "misplaced"
why_words Alone = codes "must stand alone in its line"
why_words OutOfOrder = codes "out of order"
why_words WrongKind = codes "of the wrong kind"
why_words (Incomplete lack) = codes "incomplete"
why_words (Limit limits.Records) = codes "limit records"
why_words (Limit limits.Groups) = codes "limit groups"
why_words (Limit limits.Transaction) = codes "limit transaction"
why_words TooLong = codes "limit line"

-- the record in its line, where there is one
abbrev pub record_words : ℕ → List ℕ
record_words number = if nat_lt 0 number then concat (codes " record " ∷ decimal number ∷ []) else []

-- its kind, where that is known
abbrev pub kind_words : Option Kind → List ℕ
kind_words None = []
kind_words (Some this_kind) = concat (codes " " ∷ letters this_kind ∷ [])

-- the key of a record's field; before its kind is known that is the one of its kind
abbrev pub key_in : Option Kind → ℕ → List ℕ
key_in None j = codes "record_type"
key_in (Some this_kind) j = field_key this_kind j

-- a colon before what is said of the whole line
abbrev pub colon_if : Bool → List ℕ
colon_if true = codes ":"
colon_if false = []

-- the key, where there is one
abbrev pub key_words : Option Kind → ℕ → Key → List ℕ
key_words this_kind number said_of.None = []
key_words this_kind number (said_of.Field j) = codes " " ++ key_in this_kind j
key_words this_kind number (said_of.Text text) = colon_if (number == 0) ++ quoted_key text.items

-- where in its line it is
abbrev pub where_words : LineFault → List ℕ
where_words f = record_words f.«record» ++ kind_words f.kind ++ key_words f.kind f.«record» f.key

-- and why
abbrev pub fault_words : LineFault → List ℕ
fault_words f = where_words f ++ concat (codes ": " ∷ why_words f.why ∷ [])

-- which line is refused
abbrev pub line_words : ℕ → List ℕ
line_words n = concat (codes "REFUSED line " ∷ decimal n ∷ [])

-- the line on a refusal
unfoldable pub refused_text : Refusal → List ℕ
refused_text r = line_words r.line ++ fault_words r.fault ++ codes "\n"

-- the line on a transmission that was written
unfoldable pub written_text : Written → List ℕ
written_text w = concat (codes "WRITTEN lines " ∷ decimal w.lines ∷ codes " bytes " ∷ decimal w.bytes ∷ codes "\n" ∷ [])

-- the line on how a write ended; where a device or memory failed there is none
abbrev pub outcome_text : Result Written WriteFault → List ℕ
outcome_text (Ok w) = written_text w
outcome_text (Err (Refused r)) = refused_text r
outcome_text (Err (Early n)) = codes "REFUSED the input ends before the trailer\n"
outcome_text (Err fault) = []

-- ---- what helps

-- the words for what is lacking
abbrev pub lack_words : Lack → List ℕ
lack_words lacks.Territory = codes "a territory (TER) is missing, and its parties (IPA)"
lack_words lacks.Parties = codes "an assignor (IPA, agreement_role AS) and an acquirer (AC) are missing"
lack_words lacks.Assignor = codes "an assignor (IPA, agreement_role AS) is missing"
lack_words lacks.Acquirer = codes "an acquirer (IPA, agreement_role AC) is missing"
lack_words lacks.Writer = codes "a writer (SWR or OWR) is missing"
lack_words lacks.Transaction = codes "the group has no transaction"
lack_words lacks.Group = codes "the transmission has no group"

-- the key of a field that isn't computed, after a space
abbrev pub carried_key : FieldLayout → List ℕ
carried_key f = if f.derived then [] else codes " " ++ key_of f.name

abbrev pub carried_if : Option FieldLayout → List ℕ
carried_if None = []
carried_if (Some f) = carried_key f

-- the keys that a kind's records may have
unfoldable pub keys_text : Kind → List ℕ
keys_text this_kind =
    concat (codes "  keys of " ∷ letters this_kind ∷ codes ": record_type" ∷ []) ++ flat_map carried_key (layout this_kind)
    ++ codes "\n"

-- how wide a field is
abbrev pub width_if : Option FieldLayout → List ℕ
width_if None = []
width_if (Some f) =
    (codes "  " ++ key_of f.name) ++ concat (codes " has at most " ∷ decimal f.width ∷ codes " bytes\n" ∷ [])

abbrev pub width_text : Kind → ℕ → List ℕ
width_text this_kind j = width_if (field_at this_kind j)

-- what is lacking
abbrev pub lack_text : Lack → List ℕ
lack_text lack = concat (codes "  " ∷ lack_words lack ∷ codes "\n" ∷ [])

-- the characters that there may be
abbrev pub character_text : Encoding → List ℕ
character_text Latin1 = codes "  without --utf8 there are only the characters up to U+00FF\n"
character_text Utf8 =
    codes "  beside U+F780 to U+F7FF, which are bytes, there are only the characters up to U+007F\n"

-- The line that helps: the keys that there are, where one is unknown; the width, where a text is wider; which characters there may be,
-- where another stands; what is missing, where an item is incomplete. Of other refusals there is none.
abbrev pub hint_of : Encoding → Option Kind → Key → Why → List ℕ
hint_of enc (Some this_kind) key UnknownKey = keys_text this_kind
hint_of enc None key UnknownKey = codes "  keys of a line: records\n"
hint_of enc this_kind key NotAByte = character_text enc
hint_of enc (Some this_kind) (said_of.Field j) TooWide = width_text this_kind j
hint_of enc this_kind key (Incomplete lack) = lack_text lack
hint_of enc this_kind key why = []

abbrev pub hint_text : Encoding → LineFault → List ℕ
hint_text enc f = hint_of enc f.kind f.key f.why
