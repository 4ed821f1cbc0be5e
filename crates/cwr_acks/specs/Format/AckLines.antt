-- What is written of items as acknowledgements, for people or as JSON, and nothing for the verdict.
use Rattle.std.specs.Prelude.{◌≡◌, ℕ, Bool, not, ◌&&◌, ◌||◌, ◌==◌, length, List, [], ◌∷◌, ◌++◌, count_by, is_none, is_some, map, take, Option, Some, None}
use Rattle.std.specs.Prelude.{option_map, slice_get, if◌then◌else◌}
use Rattle.std.specs.List.{enumerate_from, flat_map, list_any}
use Rattle.std.specs.Option.{option_and_then}
use Rattle.json.specs.Print.{quoted}
use Rattle.cwr_fields.specs.declared.message_codes.TransactionStatus.{TransactionStatus}
use Rattle.cwr_lines.specs.Format.Records.{RecordValue}
use Rattle.cwr_values.specs.declared.items.Item.{Item}
use Rattle.cwr_values.specs.declared.items.Item.TheVariants.{Opened, Transaction, Ended}
use Rattle.cwr_tools.specs.Format.Reports.{ItemLines}
use Rattle.cwr_sent.specs.declared.facts.SentFacts.{SentFacts}
use Rattle.cwr_sent.specs.Format.SentFacts.{SentContent}
use Rattle.cwr_delivery.specs.declared.outcomes.Notes.{Notes}
use Rattle.cwr_delivery.specs.declared.outcomes.Outcome.{Outcome}
use Rattle.cwr_delivery.specs.declared.outcomes.Outcome.TheVariants as outcomes
use Rattle.cwr_delivery.specs.Format.Acknowledgements.{has_status, is_ack, is_answer, worst_level}
use Rattle.cwr_delivery.specs.Format.Answering.{wants_answer}
use Rattle.cwr_delivery.specs.Format.Told.{Delivered, History, Told, is_answered, notes_on, read_after}
use Rattle.cwr_acks.specs.declared.forms.Cells.{Cells}
use Rattle.cwr_acks.specs.declared.forms.Form.{Form}
use Rattle.cwr_acks.specs.declared.forms.Form.TheVariants as forms
use Rattle.cwr_acks.specs.declared.forms.Manner.{Manner}
use Rattle.cwr_acks.specs.Format.AckTexts.{ack_line, counts_line, message_lines, name_before, note_lines, unanswered_text}
use Rattle.cwr_acks.specs.Format.AckData.{ack_data, counts_data, data_line, unanswered_data}

-- ---- how it is told

-- in what form; of which statuses, where any are asked for; the file's name, where there are several files; and the names of the files of
-- what was sent, where these are several
pub record Telling : Type 0 where
  pub form : Form
  pub statuses : List TransactionStatus
  pub file : Option (List ℕ)
  pub names : List (List ℕ)

-- a name as it is told: between quotes in JSON
abbrev pub shown_name : Form → List ℕ → List ℕ
shown_name (forms.Words cells) name = name
shown_name (forms.Json enc) name = quoted name

abbrev pub shown_telling : Telling → Telling
shown_telling telling = record {
  form = telling.form;
  statuses = telling.statuses;
  file = option_map (shown_name telling.form) telling.file;
  names = map (shown_name telling.form) telling.names;
}

-- the names that a manner has, which are as they are told
abbrev pub telling_of : Manner → Telling
telling_of manner = record {
  form = manner.form;
  statuses = manner.statuses.now;
  file = option_map (λ n. n.now) manner.file;
  names = map (λ n. n.items) manner.names.now;
}

abbrev pub IsToldSo : Telling → Manner → Type 0
IsToldSo telling manner = telling_of manner ≡ shown_telling telling

-- with what it is matched: what was sent, and what was read before
pub record Matched : Type 0 where
  pub delivered : Delivered
  pub history : History

-- with items that were read after that
abbrev pub matched_after : Option Matched → List Item → Option Matched
matched_after matched given =
    option_map (λ m. record { delivered = m.delivered; history = read_after m.history given }) matched

-- ---- an acknowledgement

-- the name of the file of what it answers
abbrev pub name_of_outcome : List (List ℕ) → Outcome → Option (List ℕ)
name_of_outcome names (outcomes.Answers i f) = slice_get names i
name_of_outcome names outcome = None

abbrev pub name_of_notes : List (List ℕ) → Option Notes → Option (List ℕ)
name_of_notes names notes = option_and_then (λ (n : Notes). name_of_outcome names n.outcome) notes

abbrev pub note_lines_if : Cells → Option Notes → RecordValue → List ℕ
note_lines_if cells None a = []
note_lines_if cells (Some notes) a = note_lines cells notes a

-- by its header and its records
abbrev pub answer_as : Form → Telling → Option Notes → RecordValue → List RecordValue → List ℕ
answer_as (forms.Words cells) telling notes a t =
    ack_line cells (name_of_notes telling.names notes) a (worst_level t) ++ message_lines cells t ++ note_lines_if cells notes a
answer_as (forms.Json enc) telling notes a t = data_line (ack_data enc telling.file (name_of_notes telling.names notes) notes a t)

-- what is told of it beside what it says
abbrev pub notes_after : Option Matched → List Item → RecordValue → List RecordValue → Option Notes
notes_after None before a t = None
notes_after (Some matched) before a t =
    let history = read_after matched.history before in
    Some (notes_on matched.delivered history.told (record { opening = history.opening; head = a; records = t }))

abbrev pub has_one_of : List TransactionStatus → List RecordValue → Bool
has_one_of statuses t = list_any (λ this_status. has_status this_status (Transaction t)) statuses

-- a transaction with one of the statuses that are asked for; where none is, each is told
abbrev pub is_told : List TransactionStatus → List RecordValue → Bool
is_told statuses t = (length statuses == 0) || has_one_of statuses t

-- the lines of a transaction that comes after these items, where that is an acknowledgement that is told
abbrev pub transaction_after : Telling → Option Matched → List Item → List RecordValue → List ℕ
transaction_after telling matched before [] = []
transaction_after telling matched before (a ∷ rest) =
    if is_ack a && is_told telling.statuses (a ∷ rest)
    then answer_as telling.form telling (notes_after matched before a (a ∷ rest)) a (a ∷ rest)
    else []

-- ---- the end

-- transaction t, from 0, of group g, from 1, of what was sent under that name isn't answered
abbrev pub unanswered_as : Form → Option (List ℕ) → ℕ → ℕ → SentFacts → List ℕ
unanswered_as (forms.Words cells) name g t f = name_before name ++ unanswered_text cells g t f
unanswered_as (forms.Json enc) name g t f = data_line (unanswered_data enc name g t f)

abbrev pub unanswered_if : Bool → Form → Option (List ℕ) → ℕ → ℕ → SentFacts → List ℕ
unanswered_if answered form name g t f = if wants_answer f && not answered then unanswered_as form name g t f else []

-- those of a group, and of transmission i, from 0, that none of what was read answers
abbrev pub unanswered_in_group : Telling → Delivered → List Told → ℕ → ℕ → List SentFacts → List ℕ
unanswered_in_group telling delivered told i g facts =
    flat_map (λ q. unanswered_if (is_answered delivered told i g q.0) telling.form (slice_get telling.names i) g q.0 q.1)
    (enumerate_from 0 facts)

abbrev pub unanswered_in_one : Telling → Delivered → List Told → ℕ → SentContent → List ℕ
unanswered_in_one telling delivered told i content =
    flat_map (λ p. unanswered_in_group telling delivered told i p.0 p.1) (enumerate_from 1 content.groups)

abbrev pub unanswered_in : Telling → Delivered → List Told → List ℕ
unanswered_in telling delivered told =
    flat_map (λ p. unanswered_in_one telling delivered told p.0 p.1) (enumerate_from 0 delivered.sent)

-- after items
abbrev pub unanswered_after : Telling → Option Matched → List Item → List ℕ
unanswered_after telling None before = []
unanswered_after telling (Some matched) before =
    unanswered_in telling matched.delivered (read_after matched.history before).told

-- how many acknowledgements there are, and how many of each status
abbrev pub counts_as : Form → Option (List ℕ) → ℕ → (TransactionStatus → ℕ) → List ℕ
counts_as (forms.Words cells) file all count = counts_line all count
counts_as (forms.Json enc) file all count = data_line (counts_data file all count)

abbrev pub counts_after : Telling → List Item → List ℕ
counts_after telling before =
    counts_as telling.form telling.file (count_by is_answer before) (λ this_status. count_by (has_status this_status) before)

-- what stands at the end: where there are several files, what isn't answered is told after the last one
abbrev pub end_after : Telling → Option Matched → List Item → List ℕ
end_after telling matched before =
    (if is_none telling.file then unanswered_after telling matched before else []) ++ counts_after telling before

-- ---- all lines

-- those of an item that comes after others
abbrev pub lines_after : Telling → Option Matched → List Item → Item → List ℕ
lines_after telling matched before (Transaction t) = transaction_after telling matched before t
lines_after telling matched before Ended = end_after telling matched before
lines_after telling matched before item = []

-- the lines of items
unfoldable pub ack_lines : Telling → Option Matched → List Item → List ℕ
ack_lines telling matched items =
    flat_map (λ q. lines_after telling matched (take q.0 items) q.1) (enumerate_from 0 items)

-- memory is asked for an item of which something is kept
abbrev pub keeps_of : Item → Bool
keeps_of (Opened r) = Bool.true
keeps_of item = is_answer item

abbrev pub lines_of_acks : Telling → Option Matched → ItemLines
lines_of_acks telling matched = record {
  lines = ack_lines telling matched;
  last = λ items verdict. [];
  take_memory = λ item. is_some matched && keeps_of item;
}
