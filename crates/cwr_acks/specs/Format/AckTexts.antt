-- What is written of acknowledgements, for people.
use Rattle.std.specs.Prelude.{ℕ, Bool, List, [], ◌++◌, codes, decimal, Option, Some, None, option_map, unwrap_or}
use Rattle.std.specs.Prelude.{if◌then◌else◌}
use Rattle.std.specs.List.{flat_map}
use Rattle.cwr_fields.specs.declared.message_codes.TransactionStatus.{TransactionStatus}
use Rattle.cwr_fields.specs.declared.message_codes.TransactionStatus.TheVariants as status
use Rattle.cwr_fields.specs.declared.message_codes.MessageLevel.{MessageLevel}
use Rattle.cwr_fields.specs.Format.Bytes.{is_spaces, number_of, trimmed}
use Rattle.cwr_fields.specs.Format.MessageCodes.{level_code, status_code, transaction_statuses}
use Rattle.cwr_fields.specs.Format.Kinds.{letters}
use Rattle.cwr_lines.specs.Format.Records.{RecordValue, cell_named}
use Rattle.cwr_json.specs.Format.Encodings.{characters}
use Rattle.cwr_sent.specs.declared.facts.SentFacts.{SentFacts}
use Rattle.cwr_delivery.specs.declared.outcomes.Notes.{Notes}
use Rattle.cwr_delivery.specs.declared.outcomes.Outcome.{Outcome}
use Rattle.cwr_delivery.specs.declared.outcomes.Outcome.TheVariants as outcomes
use Rattle.cwr_delivery.specs.Format.Acknowledgements.{is_message, status_in}
use Rattle.cwr_acks.specs.declared.forms.Cells.{Cells}
use Rattle.cwr_acks.specs.declared.forms.Cells.TheVariants.{Bytes, Characters}

-- ---- parts of lines

-- a cell without trailing spaces: byte for byte, or in the characters that its bytes are shown as in data
abbrev pub shown_as : Cells → List ℕ → List ℕ
shown_as Bytes cell = trimmed cell
shown_as (Characters enc) cell = characters enc (trimmed cell)

-- it stands after a word; a blank one is left out, and so is the word
abbrev pub cell_part : Cells → List ℕ → List ℕ → List ℕ
cell_part cells word cell = if is_spaces cell then [] else word ++ shown_as cells cell

-- a number after a word; a blank one is left out, and so is the word
abbrev pub number_part : List ℕ → List ℕ → List ℕ
number_part word cell = if is_spaces cell then [] else word ++ decimal (number_of cell)

-- the words of a status
abbrev pub words_of : TransactionStatus → List ℕ
words_of status.Conflict = codes "conflict"
words_of status.Duplicate = codes "duplicate"
words_of status.TransactionAccepted = codes "transaction accepted"
words_of status.RegistrationAccepted = codes "registration accepted"
words_of status.AcceptedWithChanges = codes "registration accepted with changes"
words_of status.ReadyForPayment = codes "registration accepted, ready for payment"
words_of status.ChangedReadyForPayment = codes "registration accepted with changes, ready for payment"
words_of status.Rejected = codes "rejected"
words_of status.NoParticipation = codes "no participation"
words_of status.ClaimRejected = codes "claim rejected"

abbrev pub status_words : Option TransactionStatus → List ℕ
status_words found = unwrap_or (option_map words_of found) []

-- the worst level of messages, if there are any
abbrev pub level_part : Option MessageLevel → List ℕ
level_part None = []
level_part (Some this_level) = codes " level " ++ level_code this_level

-- ---- lines

-- the transaction that an acknowledgement answers
abbrev pub original_text : RecordValue → List ℕ
original_text a =
    codes "group " ++ decimal (number_of (cell_named "original group id" a))
    ++ codes " transaction " ++ decimal (number_of (cell_named "original transaction sequence" a))
    ++ codes " " ++ trimmed (cell_named "original transaction type" a)

-- what became of it
abbrev pub status_text : RecordValue → List ℕ
status_text a = cell_named "transaction status" a ++ codes " " ++ status_words (status_in a)

-- the text of an acknowledgement, by its header and the worst level of its messages
abbrev pub ack_text : Cells → RecordValue → Option MessageLevel → List ℕ
ack_text cells a worst =
    status_text a ++ codes ": " ++ original_text a ++ level_part worst
    ++ cell_part cells (codes " submitter ") (cell_named "submitter creation number" a)
    ++ cell_part cells (codes " recipient ") (cell_named "recipient creation number" a)
    ++ cell_part cells (codes " title ") (cell_named "creation title" a)

-- the name of the file of what it answers, where that is told
abbrev pub sent_part : Option (List ℕ) → List ℕ
sent_part None = []
sent_part (Some name) = codes " sent " ++ name

-- its line
abbrev pub ack_line : Cells → Option (List ℕ) → RecordValue → Option MessageLevel → List ℕ
ack_line cells name a worst = ack_text cells a worst ++ sent_part name ++ codes "\n"

-- the line of a message
abbrev pub message_line : Cells → RecordValue → List ℕ
message_line cells m =
    codes "  level " ++ cell_named "message level" m ++ codes " type " ++ cell_named "message type" m
    ++ number_part (codes " record ") (cell_named "original record sequence" m)
    ++ cell_part cells (codes " ") (cell_named "message record type" m)
    ++ cell_part cells (codes " validation ") (cell_named "validation number" m)
    ++ codes ": " ++ shown_as cells (cell_named "message text" m) ++ codes "\n"

-- the lines of the messages among records
abbrev pub message_text : Cells → RecordValue → List ℕ
message_text cells r = if is_message r then message_line cells r else []

abbrev pub message_lines : Cells → List RecordValue → List ℕ
message_lines cells t = flat_map (message_text cells) t

-- a word on an acknowledgement, and what stands for it in what was sent
abbrev pub value_part : List ℕ → List ℕ
value_part [] = []
value_part value = codes " sent " ++ value

abbrev pub marked_line : Cells → List ℕ → RecordValue → List ℕ → List ℕ
marked_line cells word a value =
    word ++ original_text a ++ cell_part cells (codes " submitter ") (cell_named "submitter creation number" a)
    ++ cell_part cells (codes " title ") (cell_named "creation title" a) ++ value_part value ++ codes "\n"

abbrev pub marked_if : Cells → Bool → List ℕ → RecordValue → List ℕ
marked_if cells told word a = if told then marked_line cells word a [] else []

-- why it answers nothing
abbrev pub outcome_line : Cells → Outcome → RecordValue → List ℕ
outcome_line cells (outcomes.Answers sent facts) a = []
outcome_line cells outcomes.Unsent a = marked_line cells (codes "UNSENT ") a []
outcome_line cells outcomes.Unclear a = marked_line cells (codes "UNCLEAR ") a []
outcome_line cells (outcomes.Retyped this_kind) a = marked_line cells (codes "RETYPED ") a (letters this_kind)
outcome_line cells (outcomes.Renumbered number) a = marked_line cells (codes "RENUMBERED ") a (shown_as cells number)

-- what is told of it beside what it says
abbrev pub note_lines : Cells → Notes → RecordValue → List ℕ
note_lines cells notes a =
    marked_if cells notes.unkeyed (codes "UNKEYED ") a ++ outcome_line cells notes.outcome a
    ++ marked_if cells notes.retitled (codes "RETITLED ") a ++ marked_if cells notes.again (codes "AGAIN ") a

-- transaction t, from 0, of group g, from 1, isn't answered
abbrev pub name_before : Option (List ℕ) → List ℕ
name_before None = []
name_before (Some name) = name ++ codes ": "

abbrev pub unanswered_text : Cells → ℕ → ℕ → SentFacts → List ℕ
unanswered_text cells g t f =
    codes "UNANSWERED group " ++ decimal g ++ codes " transaction " ++ decimal t ++ codes " " ++ letters f.kind
    ++ cell_part cells (codes " submitter ") f.number ++ codes "\n"

-- a status, and how many acknowledgements have it
abbrev pub status_part : List ℕ → ℕ → List ℕ
status_part code count = codes " " ++ code ++ codes " " ++ decimal count

-- how many acknowledgements there are, and how many of them have each status
abbrev pub counts_line : ℕ → (TransactionStatus → ℕ) → List ℕ
counts_line all count =
    codes "ACKS " ++ decimal all
    ++ flat_map (λ this_status. status_part (status_code this_status) (count this_status)) transaction_statuses ++ codes "\n"
