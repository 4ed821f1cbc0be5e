-- The acknowledgements that were read, and what is told of the next one beside what it says.
use Rattle.std.specs.Prelude.{ℕ, Bool, false, not, ◌&&◌, ◌==◌, List, [], ◌∷◌, ◌++◌, fold, unwrap_or, if◌then◌else◌}
use Rattle.std.specs.List.{flat_map, list_any}
use Rattle.cwr_fields.specs.declared.kinds.Kind.TheVariants as kinds
use Rattle.cwr_fields.specs.declared.message_codes.TransactionStatus.TheVariants as status
use Rattle.cwr_fields.specs.Format.Bytes.{number_of, trimmed}
use Rattle.cwr_lines.specs.Format.Records.{RecordValue, cell_named}
use Rattle.cwr_values.specs.declared.items.Item.{Item}
use Rattle.cwr_values.specs.declared.items.Item.TheVariants.{Opened, Transaction}
use Rattle.cwr_sent.specs.Format.Answers.{Answer, same_sender}
use Rattle.cwr_sent.specs.Format.SentFacts.{SentContent, created_of, sender_of, title_check}
use Rattle.cwr_delivery.specs.declared.outcomes.Notes.{Notes}
use Rattle.cwr_delivery.specs.declared.outcomes.Outcome.{Outcome}
use Rattle.cwr_delivery.specs.declared.outcomes.Outcome.TheVariants as outcomes
use Rattle.cwr_delivery.specs.Format.Acknowledgements.{is_ack, status_in, worst_level}
use Rattle.cwr_delivery.specs.Format.Answering.{group_of, has_key, outcome_of, sequence_of}

-- ---- acknowledgements

-- one with the HDR record of the transmission in which it stands: its header, and all its records
pub record Told : Type 0 where
  pub opening : RecordValue
  pub head : RecordValue
  pub records : List RecordValue

-- what it says of the transaction that it answers
abbrev pub answer_of : Told → Answer
answer_of told = record {
  sender = sender_of told.opening;
  created = created_of told.opening;
  processed = number_of (cell_named "processing date" told.head);
  status = unwrap_or (status_in told.head) status.Conflict;
  level = worst_level told.records;
  recipient = cell_named "recipient creation number" told.head;
}

-- ---- those that were read

-- the HDR record of the transmission that is read, and the acknowledgements so far
pub record History : Type 0 where
  pub opening : RecordValue
  pub told : List Told

-- nothing was read
abbrev pub no_history : History
no_history = record { opening = record { kind = kinds.Trl; cells = [] }; told = [] }

-- with a transaction more, where that is an acknowledgement
abbrev pub told_with : History → List RecordValue → History
told_with history [] = history
told_with history (a ∷ rest) =
    if is_ack a
    then record history { told = history.told ++ record { opening = history.opening; head = a; records = a ∷ rest } ∷ [] }
    else history

-- with an item more
abbrev pub read_with : History → Item → History
read_with history (Opened r) = record history { opening = r }
read_with history (Transaction t) = told_with history t
read_with history item = history

-- after items
abbrev pub read_after : History → List Item → History
read_after history items = fold read_with history items

-- ---- what was sent, and how it is matched

pub record Delivered : Type 0 where
  pub by_place : Bool
  pub sent : List SentContent

abbrev pub outcome_in : Delivered → RecordValue → Outcome
outcome_in delivered a = outcome_of delivered.by_place delivered.sent a

-- it answers transaction t, from 0, of group g, from 1, of transmission i, from 0
abbrev pub is_in : ℕ → Outcome → Bool
is_in i (outcomes.Answers j f) = i == j
is_in i outcome = false

abbrev pub answers_place : Delivered → ℕ → ℕ → ℕ → RecordValue → Bool
answers_place delivered i g t a = is_in i (outcome_in delivered a) && (g == group_of a) && (t == sequence_of a)

-- the answers to that transaction, in the order in which they were read
abbrev pub answers_to : Delivered → List Told → ℕ → ℕ → ℕ → List Answer
answers_to delivered told i g t =
    flat_map (λ s. if answers_place delivered i g t s.head then answer_of s ∷ [] else []) told

-- ---- what is told of an acknowledgement beside what it says

-- the check of the title that it names
abbrev pub named_check : RecordValue → ℕ
named_check a = title_check (trimmed (cell_named "creation title" a))

-- two titles have different checks, and neither is blank
abbrev pub are_different : ℕ → ℕ → Bool
are_different one other = not (one == 0) && (not (other == 0) && not (one == other))

-- it names another title than the transaction that it answers has
abbrev pub is_retitled : Outcome → RecordValue → Bool
is_retitled (outcomes.Answers i f) a = are_different f.title (named_check a)
is_retitled outcome a = false

-- an answer by its sender to the same transaction was read before
abbrev pub is_again : Delivered → List Told → Outcome → Told → Bool
is_again delivered told (outcomes.Answers i f) new =
    list_any (λ old. same_sender old (answer_of new)) (answers_to delivered told i (group_of new.head) (sequence_of new.head))
is_again delivered told outcome new = false

-- it has no key, and that is looked at
abbrev pub is_unkeyed : Bool → RecordValue → Bool
is_unkeyed by_place a = not by_place && not (has_key a)

-- what is told of it after what was read
abbrev pub notes_on : Delivered → List Told → Told → Notes
notes_on delivered told new = record {
  unkeyed = is_unkeyed delivered.by_place new.head;
  outcome = outcome_in delivered new.head;
  retitled = is_retitled (outcome_in delivered new.head) new.head;
  again = is_again delivered told (outcome_in delivered new.head) new;
}

-- ---- what isn't answered

-- one of those that were read answers transaction t, from 0, of group g, from 1, of transmission i, from 0
abbrev pub is_answered : Delivered → List Told → ℕ → ℕ → ℕ → Bool
is_answered delivered told i g t = list_any (λ s. answers_place delivered i g t s.head) told
