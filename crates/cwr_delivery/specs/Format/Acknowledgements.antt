-- What an acknowledgement says: its status, and the levels of its messages.
use Rattle.std.specs.Prelude.{Bool, false, ◌&&◌, List, take, find, Option}
use Rattle.std.specs.List.{list_any}
use Rattle.std.specs.Str.{bytes_eq}
use Rattle.cwr_fields.specs.declared.message_codes.TransactionStatus.{TransactionStatus}
use Rattle.cwr_fields.specs.declared.message_codes.MessageLevel.{MessageLevel}
use Rattle.cwr_fields.specs.Format.MessageCodes.{level_code, message_levels, status_code, transaction_statuses}
use Rattle.cwr_fields.specs.Format.Members.{member_with}
use Rattle.cwr_fields.specs.declared.kinds.Kind.TheVariants as kinds
use Rattle.cwr_lines.specs.Format.Records.{RecordValue, cell_named}
use Rattle.cwr_values.specs.declared.items.Item.{Item}
use Rattle.cwr_values.specs.declared.items.Item.TheVariants.{Transaction}
use Rattle.cwr_findings.specs.Format.Findings.{is_a}

-- the header of an acknowledgement
abbrev pub is_ack : RecordValue → Bool
is_ack r = is_a kinds.Ack r

-- a message
abbrev pub is_message : RecordValue → Bool
is_message r = is_a kinds.Msg r

-- ---- what became of a transaction

-- the status that an acknowledgement's header names
abbrev pub status_in : RecordValue → Option TransactionStatus
status_in a = member_with status_code transaction_statuses 2 (cell_named "transaction status" a)

-- the record is the header of an acknowledgement with that status
abbrev pub is_ack_of : TransactionStatus → RecordValue → Bool
is_ack_of this_status r = is_ack r && bytes_eq (cell_named "transaction status" r) (status_code this_status)

-- the item is an acknowledgement with that status
abbrev pub has_status : TransactionStatus → Item → Bool
has_status this_status (Transaction t) = list_any (is_ack_of this_status) (take 1 t)
has_status this_status item = false

-- the item is an acknowledgement
abbrev pub is_answer : Item → Bool
is_answer (Transaction t) = list_any is_ack (take 1 t)
is_answer item = false

-- ---- what its messages reject

-- the record is a message of that level
abbrev pub is_message_of : MessageLevel → RecordValue → Bool
is_message_of this_level r = is_message r && bytes_eq (cell_named "message level" r) (level_code this_level)

-- the worst level of the messages among records: the first of E, G, T, R and F that some message has
abbrev pub worst_level : List RecordValue → Option MessageLevel
worst_level t = find (λ this_level. list_any (is_message_of this_level) t) message_levels
