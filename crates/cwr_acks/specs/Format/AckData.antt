-- What is written of acknowledgements as JSON: the data of each line.
use Rattle.std.specs.Prelude.{ℕ, Bool, true, List, [], ◌∷◌, ◌++◌, codes, decimal, Option, Some, None, if◌then◌else◌}
use Rattle.json.specs.Json.{Json, boolean, number, string, array, object, Items, no_items, item, Members, no_members, member}
use Rattle.json.specs.Tree.{json_tokens}
use Rattle.json.specs.Print.{print}
use Rattle.cwr_fields.specs.declared.message_codes.TransactionStatus.{TransactionStatus}
use Rattle.cwr_fields.specs.declared.message_codes.MessageLevel.{MessageLevel}
use Rattle.cwr_fields.specs.Format.Bytes.{is_spaces, number_of, trimmed}
use Rattle.cwr_fields.specs.Format.MessageCodes.{level_code, status_code, transaction_statuses}
use Rattle.cwr_fields.specs.Format.Kinds.{letters}
use Rattle.cwr_lines.specs.Format.Records.{RecordValue, cell_named}
use Rattle.cwr_json.specs.declared.encodings.Encoding.{Encoding}
use Rattle.cwr_json.specs.Format.Encodings.{characters}
use Rattle.cwr_sent.specs.declared.facts.SentFacts.{SentFacts}
use Rattle.cwr_delivery.specs.declared.outcomes.Notes.{Notes}
use Rattle.cwr_delivery.specs.declared.outcomes.Outcome.{Outcome}
use Rattle.cwr_delivery.specs.declared.outcomes.Outcome.TheVariants as outcomes
use Rattle.cwr_delivery.specs.Format.Acknowledgements.{is_message, status_in, worst_level}
use Rattle.cwr_acks.specs.Format.AckTexts.{status_words}
use Rattle.cwr_delivery.specs.Format.Answering.{group_of, sequence_of}

-- ---- members by their keys

-- a text
abbrev pub with_text : List ℕ → List ℕ → Members → Members
with_text key text more = member key (string text) more

-- a number
abbrev pub with_number : List ℕ → ℕ → Members → Members
with_number key n more = member key (number (decimal n)) more

-- a cell without trailing spaces, in the characters that its bytes are shown as
abbrev pub with_cell : Encoding → List ℕ → List ℕ → Members → Members
with_cell enc key cell more = with_text key (characters enc (trimmed cell)) more

-- a blank one is left out
abbrev pub with_cell_if : Encoding → List ℕ → List ℕ → Members → Members
with_cell_if enc key cell more = if is_spaces cell then more else with_cell enc key cell more

-- so is the number of one
abbrev pub with_number_if : List ℕ → List ℕ → Members → Members
with_number_if key cell more = if is_spaces cell then more else with_number key (number_of cell) more

-- a mark, where it is there
abbrev pub with_mark : List ℕ → Bool → Members → Members
with_mark key there more = if there then member key (boolean true) more else more

-- the worst level of messages, if there are any
abbrev pub with_level : Option MessageLevel → Members → Members
with_level None more = more
with_level (Some this_level) more = with_text (codes "level") (level_code this_level) more

-- a name, where it is told
abbrev pub with_name : List ℕ → Option (List ℕ) → Members → Members
with_name key None more = more
with_name key (Some name) more = with_text key name more

-- why an acknowledgement answers nothing
abbrev pub with_outcome : Encoding → Outcome → Members → Members
with_outcome enc (outcomes.Answers sent facts) more = more
with_outcome enc outcomes.Unsent more = with_mark (codes "unsent") true more
with_outcome enc outcomes.Unclear more = with_mark (codes "unclear") true more
with_outcome enc (outcomes.Retyped this_kind) more = with_text (codes "retyped") (letters this_kind) more
with_outcome enc (outcomes.Renumbered own) more = with_cell enc (codes "renumbered") own more

-- what is told of it beside what it says
abbrev pub with_notes : Encoding → Notes → Members → Members
with_notes enc notes more =
    with_mark (codes "unkeyed") notes.unkeyed
    (with_outcome enc notes.outcome
    (with_mark (codes "retitled") notes.retitled (with_mark (codes "again") notes.again more)))

abbrev pub with_notes_if : Encoding → Option Notes → Members → Members
with_notes_if enc None more = more
with_notes_if enc (Some notes) more = with_notes enc notes more

-- ---- an acknowledgement

-- a message
abbrev pub message_data : Encoding → RecordValue → Json
message_data enc m =
    object (with_cell enc (codes "level") (cell_named "message level" m)
    (with_cell enc (codes "type") (cell_named "message type" m)
    (with_number_if (codes "record") (cell_named "original record sequence" m)
    (with_cell_if enc (codes "record_type") (cell_named "message record type" m)
    (with_cell_if enc (codes "validation") (cell_named "validation number" m)
    (with_cell enc (codes "text") (cell_named "message text" m) no_members))))))

-- the messages among records
abbrev pub with_message : Encoding → RecordValue → Items → Items
with_message enc r more = if is_message r then item (message_data enc r) more else more

abbrev pub message_items : Encoding → List RecordValue → Items
message_items enc [] = no_items
message_items enc (r ∷ rs) = with_message enc r (message_items enc rs)

-- an acknowledgement by its header and its records
abbrev pub ack_data : Encoding → Option (List ℕ) → Option (List ℕ) → Option Notes → RecordValue → List RecordValue → Json
ack_data enc file sent notes a t =
    object (with_name (codes "file") file (with_name (codes "sent") sent
    (with_cell enc (codes "status") (cell_named "transaction status" a)
    (with_text (codes "words") (status_words (status_in a))
    (with_number (codes "group") (group_of a)
    (with_number (codes "transaction") (sequence_of a)
    (with_cell enc (codes "type") (cell_named "original transaction type" a)
    (with_level (worst_level t)
    (with_cell_if enc (codes "submitter") (cell_named "submitter creation number" a)
    (with_cell_if enc (codes "recipient") (cell_named "recipient creation number" a)
    (with_cell_if enc (codes "title") (cell_named "creation title" a)
    (with_notes_if enc notes
    (member (codes "messages") (array (message_items enc t)) no_members)))))))))))))

-- ---- the end

-- transaction t, from 0, of group g, from 1, isn't answered
abbrev pub place_data : Encoding → Option (List ℕ) → ℕ → ℕ → SentFacts → Json
place_data enc sent g t f =
    object (with_name (codes "sent") sent
    (with_number (codes "group") g
    (with_number (codes "transaction") t
    (with_text (codes "type") (letters f.kind) (with_cell_if enc (codes "submitter") f.number no_members)))))

abbrev pub unanswered_data : Encoding → Option (List ℕ) → ℕ → ℕ → SentFacts → Json
unanswered_data enc sent g t f = object (member (codes "unanswered") (place_data enc sent g t f) no_members)

-- a number for each status
abbrev pub with_counts : (TransactionStatus → ℕ) → List TransactionStatus → Members
with_counts count [] = no_members
with_counts count (this_status ∷ more) = with_number (status_code this_status) (count this_status) (with_counts count more)

-- how many acknowledgements there are, and how many of them have each status
abbrev pub counts_data : Option (List ℕ) → ℕ → (TransactionStatus → ℕ) → Json
counts_data file all count =
    object (with_name (codes "file") file
    (with_number (codes "acks") all
    (member (codes "statuses") (object (with_counts count transaction_statuses)) no_members)))

-- ---- lines

-- data with no space, and a line feed
abbrev pub data_line : Json → List ℕ
data_line j = print (json_tokens j) ++ 10 ∷ []
