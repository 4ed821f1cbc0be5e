-- The text of a line of JSON, part by part.
use Rattle.std.specs.Prelude.{ℕ, Bool, true, false, List, [], ◌∷◌, ◌++◌, codes, decimal, Option, Some, None, unwrap_or, zip}
use Rattle.std.specs.Prelude.{if◌then◌else◌}
use Rattle.cwr_fields.specs.declared.message_codes.TransactionStatus.{TransactionStatus}
use Rattle.cwr_fields.specs.declared.message_codes.MessageLevel.{MessageLevel}
use Rattle.cwr_fields.specs.Format.Bytes.{is_spaces, trimmed}
use Rattle.cwr_fields.specs.Format.MessageCodes.{level_code, status_code, transaction_statuses}
use Rattle.cwr_fields.specs.Format.Kinds.{letters}
use Rattle.cwr_lines.specs.Format.Records.{RecordValue, cell_named}
use Rattle.cwr_lines.specs.Format.Carried.{record_cell}
use Rattle.cwr_json.specs.declared.encodings.Encoding.{Encoding}
use Rattle.cwr_json.specs.Steps.FormTexts.{spelled}
use Rattle.cwr_sent.specs.declared.facts.SentFacts.{SentFacts}
use Rattle.cwr_delivery.specs.declared.outcomes.Notes.{Notes}
use Rattle.cwr_delivery.specs.declared.outcomes.Outcome.{Outcome}
use Rattle.cwr_delivery.specs.declared.outcomes.Outcome.TheVariants as outcomes
use Rattle.cwr_delivery.specs.Format.Acknowledgements.{status_in}
use Rattle.cwr_acks.specs.Format.AckTexts.{number_part, status_words}
use Rattle.cwr_delivery.specs.Format.Answering.{group_of, sequence_of}

-- ---- members after others; a key stands with the comma before it and the colon

-- the record's cell of field j, and no bytes where it has none
abbrev pub cell_at : RecordValue → ℕ → List ℕ
cell_at r j = unwrap_or (record_cell r j) []

-- a cell between quotes, without trailing spaces
abbrev pub shown_cell : Encoding → List ℕ → List ℕ
shown_cell enc cell = codes "\"" ++ spelled enc (trimmed cell) ++ codes "\""

abbrev pub cell_member : Encoding → List ℕ → List ℕ → List ℕ
cell_member enc key cell = key ++ shown_cell enc cell

-- a blank one is left out
abbrev pub cell_member_if : Encoding → List ℕ → List ℕ → List ℕ
cell_member_if enc key cell = if is_spaces cell then [] else cell_member enc key cell

abbrev pub level_member : Option MessageLevel → List ℕ
level_member None = []
level_member (Some this_level) = codes ",\"level\":\"" ++ level_code this_level ++ codes "\""

-- a mark, where it is there
abbrev pub mark_part : List ℕ → Bool → List ℕ
mark_part mark there = if there then mark else []

abbrev pub outcome_member : Encoding → Outcome → List ℕ
outcome_member enc (outcomes.Answers sent facts) = []
outcome_member enc outcomes.Unsent = codes ",\"unsent\":true"
outcome_member enc outcomes.Unclear = codes ",\"unclear\":true"
outcome_member enc (outcomes.Retyped this_kind) = codes ",\"retyped\":\"" ++ letters this_kind ++ codes "\""
outcome_member enc (outcomes.Renumbered number) = cell_member enc (codes ",\"renumbered\":") number

abbrev pub notes_members : Encoding → Notes → List ℕ
notes_members enc notes =
    mark_part (codes ",\"unkeyed\":true") notes.unkeyed ++ outcome_member enc notes.outcome
    ++ mark_part (codes ",\"retitled\":true") notes.retitled ++ mark_part (codes ",\"again\":true") notes.again

abbrev pub notes_members_if : Encoding → Option Notes → List ℕ
notes_members_if enc None = []
notes_members_if enc (Some notes) = notes_members enc notes

-- a name, as it is told, and a comma
abbrev pub name_member : List ℕ → Option (List ℕ) → List ℕ
name_member key None = []
name_member key (Some name) = key ++ name ++ codes ","

abbrev pub comma_if : Bool → List ℕ
comma_if later = if later then codes "," else []

-- ---- an acknowledgement

abbrev pub status_members : Encoding → RecordValue → List ℕ
status_members enc a =
    cell_member enc (codes "\"status\":") (cell_named "transaction status" a) ++ codes ",\"words\":\"" ++ status_words (status_in a)
    ++ codes "\""

abbrev pub original_members : Encoding → RecordValue → List ℕ
original_members enc a =
    codes ",\"group\":" ++ decimal (group_of a) ++ codes ",\"transaction\":" ++ decimal (sequence_of a)
    ++ cell_member enc (codes ",\"type\":") (cell_named "original transaction type" a)

-- what stands before the messages, but for names
abbrev pub ack_members : Encoding → Option Notes → RecordValue → Option MessageLevel → List ℕ
ack_members enc notes a worst =
    status_members enc a ++ original_members enc a ++ level_member worst
    ++ cell_member_if enc (codes ",\"submitter\":") (cell_named "submitter creation number" a)
    ++ cell_member_if enc (codes ",\"recipient\":") (cell_named "recipient creation number" a)
    ++ cell_member_if enc (codes ",\"title\":") (cell_named "creation title" a) ++ notes_members_if enc notes ++ codes ",\"messages\":["

-- a message that comes after others, or is the first
abbrev pub message_part : Encoding → Bool → RecordValue → List ℕ
message_part enc later m =
    comma_if later ++ cell_member enc (codes "{\"level\":") (cell_named "message level" m)
    ++ cell_member enc (codes ",\"type\":") (cell_named "message type" m)
    ++ number_part (codes ",\"record\":") (cell_named "original record sequence" m)
    ++ cell_member_if enc (codes ",\"record_type\":") (cell_named "message record type" m)
    ++ cell_member_if enc (codes ",\"validation\":") (cell_named "validation number" m)
    ++ cell_member enc (codes ",\"text\":") (cell_named "message text" m) ++ codes "}"

-- ---- the end

-- what stands after the name
abbrev pub unanswered_members : Encoding → ℕ → ℕ → SentFacts → List ℕ
unanswered_members enc g t f =
    codes "\"group\":" ++ decimal g ++ codes ",\"transaction\":" ++ decimal t ++ codes ",\"type\":\"" ++ letters f.kind
    ++ codes "\"" ++ cell_member_if enc (codes ",\"submitter\":") f.number ++ codes "}}\n"

-- the key of a status, after others or as the first
abbrev pub count_key : Bool → List ℕ → List ℕ
count_key later code = comma_if later ++ codes "\"" ++ code ++ codes "\":"

abbrev pub count_member : Bool → List ℕ → ℕ → List ℕ
count_member later code count = count_key later code ++ decimal count

-- statuses with their numbers
abbrev pub count_members : Bool → List (TransactionStatus × ℕ) → List ℕ
count_members later [] = []
count_members later (p ∷ more) = count_member later (status_code p.0) p.1 ++ count_members true more

-- the line of counts
abbrev pub counts_data_text : ℕ → List ℕ → List ℕ
counts_data_text all by_status =
    codes "\"acks\":" ++ decimal all ++ codes ",\"statuses\":{" ++ count_members false (zip transaction_statuses by_status)
    ++ codes "}}\n"
