-- What a delivery keeps, and how it stands for what was read.
use Rattle.std.specs.Prelude.{ℕ, ◌+◌, ◌-◌, ◌^◌, min, Bool, false, List, [], ◌∷◌, length, map, Option, Some, None}
use Rattle.std.specs.Prelude.{slice_get, slice_set, unwrap_or, if◌then◌else◌}
use Rattle.cwr_fields.specs.Format.Bytes.{number_of}
use Rattle.cwr_fields.specs.declared.message_codes.TransactionStatus.TheVariants as status
use Rattle.cwr_lines.specs.Format.Records.{RecordValue, cell_named}
use Rattle.cwr_sent.specs.declared.answers.AnsweringFile.{AnsweringFile}
use Rattle.cwr_sent.specs.declared.answers.KeptAnswer.{KeptAnswer}
use Rattle.cwr_sent.specs.Format.GroupRows.{no_file}
use Rattle.cwr_sent.specs.Format.SentRows.{SentShown, content_shown, shown_in}
use Rattle.cwr_sent.specs.Steps.SentTables.{is_again_at, kept_shown}
use Rattle.cwr_delivery.specs.declared.deliveries.Delivery.{Delivery}
use Rattle.cwr_delivery.specs.declared.deliveries.Tally.{Tally}
use Rattle.cwr_delivery.specs.declared.outcomes.Notes.{Notes}
use Rattle.cwr_delivery.specs.declared.outcomes.Outcome.{Outcome}
use Rattle.cwr_delivery.specs.declared.outcomes.Outcome.TheVariants as outcomes
use Rattle.cwr_delivery.specs.Format.Acknowledgements.{status_in, worst_level}
use Rattle.cwr_delivery.specs.Format.Answering.{group_of, sequence_of}
use Rattle.cwr_delivery.specs.Format.Told.{Delivered, is_retitled, is_unkeyed, outcome_in}

-- ---- what is kept

pub record Held : Type 0 where
  pub by_place : Bool
  pub sent : List SentShown
  pub files : List AnsweringFile
  pub tally : Tally

abbrev pub held_in : Delivery → Held
held_in d = record { by_place = d.by_place; sent = map shown_in d.sent.items; files = d.files.items; tally = d.tally }

-- what was sent, as it is kept
abbrev pub delivered_in : Held → Delivered
delivered_in h = record { by_place = h.by_place; sent = map content_shown h.sent }

-- the transmission that is read
abbrev pub last_file : List AnsweringFile → AnsweringFile
last_file files = unwrap_or (slice_get files (length files - 1)) no_file

-- what is kept of an acknowledgement in it
abbrev pub kept_of : List AnsweringFile → RecordValue → List RecordValue → KeptAnswer
kept_of files a records = record {
  file = length files - 1;
  processed = number_of (cell_named "processing date" a);
  status = unwrap_or (status_in a) status.Conflict;
  level = worst_level records;
  recipient = cell_named "recipient creation number" a;
}

-- ---- one acknowledgement more

abbrev pub kept_for_one : List AnsweringFile → ℕ → ℕ → KeptAnswer → List SentShown → ℕ → Option SentShown → List SentShown
kept_for_one files g t new sent i None = sent
kept_for_one files g t new sent i (Some shown) = slice_set sent i (kept_shown files g t new shown)

abbrev pub kept_for : Held → Outcome → RecordValue → List RecordValue → List SentShown
kept_for h (outcomes.Answers i f) a records =
    kept_for_one h.files (group_of a - 1) (sequence_of a) (kept_of h.files a records) h.sent i (slice_get h.sent i)
kept_for h outcome a records = h.sent

-- an answer by its sender is kept
abbrev pub again_in : List AnsweringFile → ℕ → ℕ → KeptAnswer → Option SentShown → Bool
again_in files g t new None = false
again_in files g t new (Some shown) = is_again_at files g t new shown.groups

abbrev pub again_for : Held → Outcome → RecordValue → List RecordValue → Bool
again_for h (outcomes.Answers i f) a records =
    again_in h.files (group_of a - 1) (sequence_of a) (kept_of h.files a records) (slice_get h.sent i)
again_for h outcome a records = false

-- ---- counts

abbrev pub most : ℕ
most = 2 ^ 64 - 1

abbrev pub is_unsent : Outcome → Bool
is_unsent outcomes.Unsent = Bool.true
is_unsent (outcomes.Retyped this_kind) = Bool.true
is_unsent (outcomes.Renumbered number) = Bool.true
is_unsent outcome = false

abbrev pub is_unclear : Outcome → Bool
is_unclear outcomes.Unclear = Bool.true
is_unclear outcome = false

abbrev pub one_more_if : Bool → ℕ → ℕ
one_more_if b n = if b then min (n + 1) most else n

abbrev pub tally_with : Tally → Bool → Outcome → Tally
tally_with tally unkeyed outcome = record {
  unsent = one_more_if (is_unsent outcome) tally.unsent;
  unclear = one_more_if (is_unclear outcome) tally.unclear;
  unkeyed = one_more_if unkeyed tally.unkeyed;
}

-- ---- nothing so far

abbrev pub nothing_held : Bool → Held
nothing_held by_place = record {
  by_place = by_place;
  sent = [];
  files = no_file ∷ [];
  tally = record { unsent = 0; unclear = 0; unkeyed = 0 };
}

-- ---- all of it

abbrev pub outcome_held : Held → RecordValue → Outcome
outcome_held h a = outcome_in (delivered_in h) a

abbrev pub taken_with : Held → RecordValue → List RecordValue → Held
taken_with h a records = record h {
  sent = kept_for h (outcome_held h a) a records;
  tally = tally_with h.tally (is_unkeyed h.by_place a) (outcome_held h a);
}

abbrev pub notes_held : Held → RecordValue → List RecordValue → Notes
notes_held h a records = record {
  unkeyed = is_unkeyed h.by_place a;
  outcome = outcome_held h a;
  retitled = is_retitled (outcome_held h a) a;
  again = again_for h (outcome_held h a) a records;
}
