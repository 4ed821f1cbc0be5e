-- How many acknowledgements there were, what is kept of them, and the lines of one item more.
use Rattle.std.specs.Prelude.{◌≡◌, ℕ, ◌+◌, ◌≤◌, Bool, not, ◌&&◌, List, [], ◌∷◌, ◌++◌, codes, count_by, decimal, fold, is_none, is_some}
use Rattle.std.specs.Prelude.{length, map, Option, Some, None, Result, option_map, replicate, slice_get, slice_index, take}
use Rattle.std.specs.Prelude.{zip, if◌then◌else◌}
use Rattle.std.specs.List.{enumerate_from, flat_map, list_any}
use Rattle.std.specs.Option.{option_and_then}
use Rattle.cwr_fields.specs.declared.message_codes.MessageLevel.{MessageLevel}
use Rattle.cwr_fields.specs.Format.MessageCodes.{status_code, transaction_statuses}
use Rattle.cwr_devices.specs.declared.sinks.Sink.{Sink}
use Rattle.cwr_devices.specs.declared.sinks.SinkFault.{SinkFault}
use Rattle.cwr_devices.specs.Steps.Sinks.{PutsText}
use Rattle.cwr_shape.specs.declared.limits.Limits.{Limits}
use Rattle.cwr_lines.specs.Format.Records.{RecordValue, cell_named}
use Rattle.cwr_values.specs.declared.items.Item.{Item}
use Rattle.cwr_values.specs.declared.items.Item.TheVariants.{Opened, Transaction, Ended}
use Rattle.cwr_tools.specs.declared.verdicts.ToolFault.{ToolFault}
use Rattle.cwr_tools.specs.declared.verdicts.Verdict.{Verdict}
use Rattle.cwr_tools.specs.Format.Reports.{ItemLines}
use Rattle.cwr_tools.specs.Steps.Reports.{Reports, StandsAtEnd}
use Rattle.cwr_sent.specs.declared.facts.SentFacts.{SentFacts}
use Rattle.cwr_sent.specs.Format.GroupRows.{GroupRows, KeptFor, file_by}
use Rattle.cwr_sent.specs.Format.SentRows.{SentShown}
use Rattle.cwr_sent.specs.Steps.Links.{is_for}
use Rattle.cwr_delivery.specs.declared.deliveries.Delivery.{Delivery}
use Rattle.cwr_delivery.specs.declared.outcomes.Notes.{Notes}
use Rattle.cwr_delivery.specs.Format.Acknowledgements.{has_status, is_ack, is_answer, is_message, worst_level}
use Rattle.cwr_delivery.specs.Format.Answering.{wants_answer}
use Rattle.cwr_delivery.specs.Format.Told.{read_after}
use Rattle.cwr_delivery.specs.Steps.Deliveries.{Held, held_in, notes_held, taken_with}
use Rattle.cwr_delivery.specs.Steps.Keeping.{Keeps}
use Rattle.cwr_acks.specs.declared.counts.Answers.{Answers}
use Rattle.cwr_acks.specs.declared.forms.Form.{Form}
use Rattle.cwr_acks.specs.declared.forms.Form.TheVariants as forms
use Rattle.cwr_acks.specs.declared.forms.Manner.{Manner}
use Rattle.cwr_acks.specs.declared.forms.Cells.{Cells}
use Rattle.cwr_acks.specs.Format.AckTexts.{ack_text, cell_part, message_line, original_text, name_before, sent_part, status_part, unanswered_text}
use Rattle.cwr_acks.specs.Format.AckLines.{is_told, IsToldSo, Matched, Telling, keeps_of, lines_of_acks, matched_after, name_of_notes, note_lines_if, telling_of}
use Rattle.cwr_acks.specs.Steps.DataTexts.{ack_members, counts_data_text, message_part, name_member, unanswered_members}

-- none
abbrev pub no_answers : Answers
no_answers = record { all = 0; by_status = replicate 10 0 }

abbrev pub one_more_if : Bool → ℕ → ℕ
one_more_if b n = if b then n + 1 else n

-- the numbers with those of one item more
abbrev pub answers_with : Answers → Item → Answers
answers_with answers item = record {
  all = one_more_if (is_answer item) answers.all;
  by_status = map (λ p. one_more_if (has_status p.0 item) p.1) (zip transaction_statuses answers.by_status);
}

-- the numbers have room for more
pub record HasRoom (answers : Answers) : Type 0 where
  pub all : answers.all ≤ 199999998
  pub each : (k : ℕ) → slice_index answers.by_status k ≤ 199999998
  pub ten : length answers.by_status ≡ 10

-- a word on an acknowledgement, and what that says of itself
abbrev pub marked_text : Cells → List ℕ → RecordValue → List ℕ
marked_text cells word a =
    word ++ original_text a ++ cell_part cells (codes " submitter ") (cell_named "submitter creation number" a)
    ++ cell_part cells (codes " title ") (cell_named "creation title" a)

-- how many there are of each status
abbrev pub status_parts : List ℕ → List ℕ
status_parts by_status = flat_map (λ p. status_part (status_code p.0) p.1) (zip transaction_statuses by_status)

-- the line of counts
abbrev pub counts_text : Answers → List ℕ
counts_text answers =
    codes "ACKS " ++ decimal answers.all
    ++ flat_map (λ p. status_part (status_code p.0) p.1) (zip transaction_statuses answers.by_status) ++ codes "\n"

abbrev pub counts_parts : Form → Option (List ℕ) → Answers → List ℕ
counts_parts (forms.Words cells) file answers = counts_text answers
counts_parts (forms.Json enc) file answers =
    codes "{" ++ name_member (codes "\"file\":") file ++ counts_data_text answers.all answers.by_status

abbrev pub counts_in : Telling → Answers → List ℕ
counts_in telling answers = counts_parts telling.form telling.file answers

-- the texts of things that are numbered from k on
abbrev pub numbered : {A : Type 0} → (ℕ → A → List ℕ) → ℕ → List A → List ℕ
numbered f k xs = flat_map (λ p. f p.0 p.1) (enumerate_from k xs)

-- ---- what an item changes of what is kept

abbrev pub kept_with_transaction : Held → List RecordValue → Held
kept_with_transaction h [] = h
kept_with_transaction h (a ∷ rest) = if is_ack a then taken_with h a (a ∷ rest) else h

abbrev pub kept_with : Held → Item → Held
kept_with h (Opened r) = record h { files = h.files ++ file_by r ∷ [] }
kept_with h (Transaction t) = kept_with_transaction h t
kept_with h item = h

-- and what is then told of it beside what it says
abbrev pub notes_of_transaction : Held → List RecordValue → Option Notes
notes_of_transaction h [] = None
notes_of_transaction h (a ∷ rest) = if is_ack a then Some (notes_held h a (a ∷ rest)) else None

abbrev pub notes_with : Held → Item → Option Notes
notes_with h (Transaction t) = notes_of_transaction h t
notes_with h item = None

abbrev pub held_if : Option Delivery → Option Held
held_if delivery = option_map held_in delivery

abbrev pub kept_if : Option Held → Item → Option Held
kept_if held item = option_map (λ h. kept_with h item) held

abbrev pub notes_if : Option Held → Item → Option Notes
notes_if held item = option_and_then (λ h. notes_with h item) held

-- after items
abbrev pub held_after : Option Held → List Item → Option Held
held_after held items = fold kept_if held items

-- ---- what isn't answered

abbrev pub unanswered_parts : Form → Option (List ℕ) → ℕ → ℕ → SentFacts → List ℕ
unanswered_parts (forms.Words cells) name g t f = name_before name ++ unanswered_text cells g t f
unanswered_parts (forms.Json enc) name g t f =
    codes "{\"unanswered\":{" ++ name_member (codes "\"sent\":") name ++ unanswered_members enc g t f

abbrev pub row_line : Telling → Option (List ℕ) → ℕ → List KeptFor → ℕ → SentFacts → List ℕ
row_line telling name g answers t f =
    if wants_answer f && not (list_any (is_for t) answers) then unanswered_parts telling.form name g t f else []

abbrev pub group_lines : Telling → Option (List ℕ) → ℕ → GroupRows → List ℕ
group_lines telling name g group = numbered (row_line telling name g group.answers) 0 group.facts

abbrev pub sent_lines : Telling → ℕ → SentShown → List ℕ
sent_lines telling i shown = numbered (group_lines telling (slice_get telling.names i)) 1 shown.groups

abbrev pub held_lines : Telling → Held → List ℕ
held_lines telling h = numbered (sent_lines telling) 0 h.sent

abbrev pub held_lines_if : Telling → Option Held → List ℕ
held_lines_if telling None = []
held_lines_if telling (Some h) = held_lines telling h

-- ---- lines

-- the text of an acknowledgement whose messages have that worst level, but for names
abbrev pub ack_in : Form → Option Notes → RecordValue → Option MessageLevel → List ℕ
ack_in (forms.Words cells) notes a worst = ack_text cells a worst
ack_in (forms.Json enc) notes a worst = ack_members enc notes a worst

-- what stands before it, and after it
abbrev pub before_ack : Form → Option (List ℕ) → Option (List ℕ) → List ℕ
before_ack (forms.Words cells) file name = []
before_ack (forms.Json enc) file name = codes "{" ++ name_member (codes "\"file\":") file ++ name_member (codes "\"sent\":") name

abbrev pub after_ack : Form → Option (List ℕ) → List ℕ
after_ack (forms.Words cells) name = sent_part name ++ codes "\n"
after_ack (forms.Json enc) name = []

abbrev pub opening_in : Telling → Option Notes → RecordValue → Option MessageLevel → List ℕ
opening_in telling notes a worst =
    before_ack telling.form telling.file (name_of_notes telling.names notes) ++ ack_in telling.form notes a worst
    ++ after_ack telling.form (name_of_notes telling.names notes)

-- a message that comes after others, or is the first
abbrev pub message_as : Form → Bool → RecordValue → List ℕ
message_as (forms.Words cells) later m = message_line cells m
message_as (forms.Json enc) later m = message_part enc later m

abbrev pub message_in : Form → Bool → RecordValue → List ℕ
message_in form later r = if is_message r then message_as form later r else []

-- the messages among records
abbrev pub messages_in : Form → List RecordValue → List ℕ
messages_in form t = numbered (λ n r. message_in form (list_any is_message (take n t)) r) 0 t

-- what stands after them
abbrev pub closing_as : Form → Option Notes → RecordValue → List ℕ
closing_as (forms.Words cells) notes a = note_lines_if cells notes a
closing_as (forms.Json enc) notes a = codes "]}\n"

-- the lines of an acknowledgement
abbrev pub answer_parts : Telling → Option Notes → RecordValue → List RecordValue → List ℕ
answer_parts telling notes a t =
    opening_in telling notes a (worst_level t) ++ messages_in telling.form t ++ closing_as telling.form notes a

-- those of a transaction, where that is one
abbrev pub transaction_at : Telling → Option Notes → List RecordValue → List ℕ
transaction_at telling notes [] = []
transaction_at telling notes (a ∷ rest) =
    if is_ack a && is_told telling.statuses (a ∷ rest) then answer_parts telling notes a (a ∷ rest) else []

-- what stands at the end
abbrev pub end_at : Telling → Option Held → Answers → List ℕ
end_at telling held answers =
    (if is_none telling.file then held_lines_if telling held else []) ++ counts_in telling answers

-- the lines of one item more, after so many acknowledgements
abbrev pub lines_at : Telling → Option Held → Option Notes → Answers → Item → List ℕ
lines_at telling held notes answers (Transaction t) = transaction_at telling notes t
lines_at telling held notes answers Ended = end_at telling held answers
lines_at telling held notes answers item = []

-- ---- what stands after items

-- the numbers are those of the items
pub record IsAnswers (answers : Answers) (given : List Item) : Type 0 where
  pub all : answers.all ≡ count_by is_answer given
  pub each : answers.by_status ≡ map (λ s. count_by (has_status s) given) transaction_statuses

-- what is kept is that of what was read before, and of the items
abbrev pub IsKept : Option Held → Option Matched → List Item → Type 0
IsKept None None given = Unit {0}
IsKept (Some h) (Some matched) given = Keeps matched.delivered (read_after matched.history given) h
IsKept held matched given = ⊥

-- ---- all lines, by what is kept

-- how many acknowledgements are among the items
abbrev pub answers_of : List Item → Answers
answers_of given = record {
  all = count_by is_answer given;
  by_status = map (λ this_status. count_by (has_status this_status) given) transaction_statuses;
}

-- the lines of an item that comes after others
abbrev pub line_held : Telling → Option Held → List Item → Item → List ℕ
line_held telling held before item =
    lines_at telling (kept_if (held_after held before) item) (notes_if (held_after held before) item) (answers_of before) item

unfoldable pub lines_held : Telling → Option Held → List Item → List ℕ
lines_held telling held items = flat_map (λ q. line_held telling held (take q.0 items) q.1) (enumerate_from 0 items)

abbrev pub lines_of_held : Telling → Option Held → ItemLines
lines_of_held telling held = record {
  lines = lines_held telling held;
  last = λ items verdict. [];
  take_memory = λ item. is_some held && keeps_of item;
}

-- ---- what is written

-- the acknowledgements' lines were written, where what is kept is that of what was read before
abbrev pub ReportsAcks : {W : Type 0} → Manner → Option Delivery → Limits → Option (List ℕ) → Option (List ℕ)
    → (W → Option (List ℕ)) → W → W → Result Verdict ToolFault → Type 0
ReportsAcks manner delivery limits before after contents old new outcome =
    (telling : Telling) (matched : Option Matched) → IsToldSo telling manner → IsKept (held_if delivery) matched []
    → Reports (lines_of_acks telling matched) limits before after contents old new outcome

-- what is kept is left as the items leave it, and so many of them are acknowledgements
abbrev pub LeavesHeld : Option Held → Limits → Option (List ℕ) → Option (List ℕ) → Result Verdict ToolFault → Option Held → Answers
    → Type 0
LeavesHeld held limits before after outcome left answers =
    StandsAtEnd (λ given. (left ≡ held_after held given) × (answers ≡ answers_of given)) limits before after outcome

-- The delivery that comes back is that of what was read before and of the items that were handed out before the verdict, or before the
-- reader failed, and so many of these are acknowledgements.
abbrev pub KeepsAnswers : Option Delivery → Limits → Option (List ℕ) → Option (List ℕ) → Result Verdict ToolFault → Option Delivery
    → Answers → Type 0
KeepsAnswers delivery limits before after outcome left answers =
    (matched : Option Matched) → IsKept (held_if delivery) matched []
    → StandsAtEnd (λ given. IsKept (held_if left) (matched_after matched given) [] × IsAnswers answers given) limits before after
    outcome

-- what stands after the last of several transmissions was put
abbrev pub PutsRest : {W : Type 0} → (W → Option (List ℕ)) → (W → ℕ) → Manner → Option Delivery → Answers → Result (Unit {0}) SinkFault
    → Sink W → Sink W → Type 0
PutsRest contents failures manner delivery answers result old new =
    PutsText contents failures (end_at (record (telling_of manner) { file = None }) (held_if delivery) answers) result old new
