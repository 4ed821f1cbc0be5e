-- The texts of rows: of a table as RFC 4180 has it, or objects of JSON.
use Rattle.std.specs.Prelude.{ℕ, ◌+◌, ◌/◌, ◌%◌, ◌==◌, List, [], ◌∷◌, ◌++◌, codes, decimal, Option, Some, None, drop, take, if◌then◌else◌}
use Rattle.std.specs.List.{flat_map}
use Rattle.json.specs.Print.{escape, quoted}
use Rattle.cwr_fields.specs.Format.Bytes.{trimmed}
use Rattle.cwr_fields.specs.Format.Kinds.{letters}
use Rattle.cwr_fields.specs.declared.message_codes.MessageLevel.{MessageLevel}
use Rattle.cwr_fields.specs.Format.MessageCodes.{level_code, status_code}
use Rattle.cwr_json.specs.declared.encodings.Encoding.{Encoding}
use Rattle.cwr_json.specs.Format.Encodings.{characters}
use Rattle.cwr_tables.specs.Format.Tables.{cell_text}
use Rattle.cwr_states.specs.Format.StateNames.{name_of}
use Rattle.cwr_sent.specs.declared.facts.SentFacts.{SentFacts}
use Rattle.cwr_sent.specs.Format.Answers.{Answer}
use Rattle.cwr_delivery.specs.Format.Told.{Delivered, Told}
use Rattle.cwr_state_rows.specs.declared.forms.Form.{Form}
use Rattle.cwr_state_rows.specs.declared.forms.Form.TheVariants as forms
use Rattle.cwr_state_rows.specs.Format.StateRows.{Row, rows_of, state_by}

-- ---- names

-- a name as it is shown
abbrev pub shown_name : Form → List ℕ → List ℕ
shown_name (forms.Csv enc) name = cell_text name
shown_name (forms.Json enc) name = quoted name

-- ---- the cells of an answer

-- the type of its sender, a space, and the sender's ID
abbrev pub society_of : List ℕ → List ℕ
society_of sender = trimmed (take 2 sender ++ codes " " ++ drop 2 sender)

-- a date as its eight digits; blank where there is none
abbrev pub digit_at : ℕ → ℕ → ℕ
digit_at n unit = 48 + n / unit % 10

abbrev pub date_of : ℕ → List ℕ
date_of n =
    if n == 0 then []
    else
    digit_at n 10000000 ∷ digit_at n 1000000 ∷ digit_at n 100000 ∷ digit_at n 10000 ∷ digit_at n 1000 ∷ digit_at n 100
    ∷ digit_at n 10 ∷ digit_at n 1 ∷ []

abbrev pub level_of : Option MessageLevel → List ℕ
level_of None = []
level_of (Some this_level) = level_code this_level

-- ---- a table

-- a cell after others, and the same of bytes, in the characters that they are shown as, in UTF-8
abbrev pub next_cell : List ℕ → List ℕ
next_cell cell = codes "," ++ cell_text cell

abbrev pub next_shown : Encoding → List ℕ → List ℕ
next_shown enc cell = next_cell (characters enc cell)

abbrev pub csv_answer : Encoding → Answer → List ℕ
csv_answer enc a =
    next_shown enc (society_of a.sender) ++ next_shown enc (status_code a.status) ++ next_shown enc (date_of a.processed)
    ++ next_shown enc (trimmed a.recipient) ++ next_shown enc (level_of a.level)

abbrev pub csv_answer_if : Encoding → Option Answer → List ℕ
csv_answer_if enc None = codes ",,,,,"
csv_answer_if enc (Some a) = csv_answer enc a

abbrev pub csv_sent : Encoding → ℕ → ℕ → SentFacts → List ℕ
csv_sent enc g t f = next_cell (decimal g) ++ next_cell (decimal t) ++ next_shown enc (letters f.kind) ++ next_shown enc (trimmed f.number)

-- what stands after the name
abbrev pub csv_rest : Encoding → Row → List ℕ
csv_rest enc row =
    csv_sent enc row.group row.transaction row.facts ++ csv_answer_if enc row.answer ++ next_shown enc (name_of (state_by row.answer)) ++ codes "\r\n"

abbrev pub heading : List ℕ
heading = codes "sent,group,transaction,type,submitter,society,status,processed,recipient,level,state\r\n"

-- ---- objects of JSON

-- a member after others, where it isn't blank; a key stands with the comma before it and the colon
abbrev pub member : Encoding → List ℕ → List ℕ → List ℕ
member enc key [] = []
member enc key (b ∷ rest) = key ++ codes "\"" ++ escape (characters enc (b ∷ rest)) ++ codes "\""

abbrev pub json_answer : Encoding → Answer → List ℕ
json_answer enc a =
    member enc (codes ",\"society\":") (society_of a.sender) ++ member enc (codes ",\"status\":") (status_code a.status)
    ++ member enc (codes ",\"processed\":") (date_of a.processed) ++ member enc (codes ",\"recipient\":") (trimmed a.recipient)
    ++ member enc (codes ",\"level\":") (level_of a.level)

abbrev pub json_answer_if : Encoding → Option Answer → List ℕ
json_answer_if enc None = []
json_answer_if enc (Some a) = json_answer enc a

abbrev pub json_sent : Encoding → ℕ → ℕ → SentFacts → List ℕ
json_sent enc g t f =
    codes "\"group\":" ++ decimal g ++ codes ",\"transaction\":" ++ decimal t ++ member enc (codes ",\"type\":") (letters f.kind)
    ++ member enc (codes ",\"submitter\":") (trimmed f.number)

abbrev pub json_rest : Encoding → Row → List ℕ
json_rest enc row =
    json_sent enc row.group row.transaction row.facts ++ json_answer_if enc row.answer
    ++ member enc (codes ",\"state\":") (name_of (state_by row.answer)) ++ codes "}\n"

-- ---- rows in either form

-- the name, and what stands before it
abbrev pub csv_name : Option (List ℕ) → List ℕ
csv_name None = []
csv_name (Some name) = name

abbrev pub json_name : Option (List ℕ) → List ℕ
json_name None = codes "{"
json_name (Some name) = codes "{\"sent\":" ++ name ++ codes ","

abbrev pub name_part : Form → Option (List ℕ) → List ℕ
name_part (forms.Csv enc) name = csv_name name
name_part (forms.Json enc) name = json_name name

abbrev pub rest_part : Form → Row → List ℕ
rest_part (forms.Csv enc) row = csv_rest enc row
rest_part (forms.Json enc) row = json_rest enc row

abbrev pub row_text : Form → Row → List ℕ
row_text form row = name_part form row.sent ++ rest_part form row

-- what stands before the rows
abbrev pub head_of : Form → List ℕ
head_of (forms.Csv enc) = heading
head_of (forms.Json enc) = []

-- the whole text, with the names of what was sent as they are shown
abbrev pub rows_text : Form → Delivered → List Told → List (List ℕ) → List ℕ
rows_text form delivered told names = head_of form ++ flat_map (row_text form) (rows_of delivered told names)
