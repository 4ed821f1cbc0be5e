-- The rows of what is kept.
use Rattle.std.specs.Prelude.{ℕ, suc, ◌+◌, min, Bool, List, [], ◌∷◌, ◌++◌, Option, Some, None, fold, option_map, slice_get, if◌then◌else◌}
use Rattle.std.specs.List.{enumerate_from, flat_map, insert}
use Rattle.cwr_states.specs.declared.outcomes.State.{State}
use Rattle.cwr_states.specs.declared.outcomes.State.TheVariants as state
use Rattle.cwr_states.specs.Format.StateNames.{state_of}
use Rattle.cwr_sent.specs.declared.answers.AnsweringFile.{AnsweringFile}
use Rattle.cwr_sent.specs.declared.answers.KeptAnswer.{KeptAnswer}
use Rattle.cwr_sent.specs.declared.facts.SentFacts.{SentFacts}
use Rattle.cwr_sent.specs.Format.GroupRows.{GroupRows, KeptFor, answer_in}
use Rattle.cwr_sent.specs.Format.SentRows.{SentShown}
use Rattle.cwr_sent.specs.Steps.Links.{last_first}
use Rattle.cwr_delivery.specs.Format.Answering.{wants_answer}
use Rattle.cwr_delivery.specs.Steps.Deliveries.{Held}
use Rattle.cwr_state_rows.specs.declared.counts.Counts.{Counts}
use Rattle.cwr_state_rows.specs.declared.forms.Form.{Form}
use Rattle.cwr_state_rows.specs.declared.row_texts.Front.{Front}
use Rattle.cwr_state_rows.specs.Format.RowTexts.{head_of, row_text}
use Rattle.cwr_state_rows.specs.Format.StateCounts.{most}
use Rattle.cwr_state_rows.specs.Format.StateRows.{Row, sender_before}

-- ---- answers that are kept, by their senders

abbrev pub kept_before : List AnsweringFile → KeptAnswer → KeptAnswer → Bool
kept_before files one other = sender_before (answer_in files one) (answer_in files other)

-- how many stand before it
abbrev pub place_of : List AnsweringFile → KeptAnswer → List KeptAnswer → ℕ
place_of files new [] = 0
place_of files new (k ∷ rest) = if kept_before files new k then 0 else suc (place_of files new rest)

abbrev pub inserted_kept : List AnsweringFile → List KeptAnswer → KeptAnswer → List KeptAnswer
inserted_kept files sorted new = insert sorted (place_of files new sorted) new

-- answers, the last one first, by their senders
abbrev pub sorted_from : List AnsweringFile → List KeptAnswer → List KeptAnswer
sorted_from files answers = fold (inserted_kept files) [] answers

-- those to transaction t
abbrev pub sorted_to : List AnsweringFile → ℕ → List KeptFor → List KeptAnswer
sorted_to files t answers = sorted_from files (last_first t answers)

-- ---- the texts of rows

-- the texts of things that are numbered from k on
abbrev pub numbered : {A : Type 0} → (ℕ → A → List ℕ) → ℕ → List A → List ℕ
numbered f k xs = flat_map (λ p. f p.0 p.1) (enumerate_from k xs)

-- what the rows of one transaction have in common
pub record Shared : Type 0 where
  pub form : Form
  pub name : Option (List ℕ)
  pub group : ℕ
  pub transaction : ℕ
  pub facts : SentFacts

abbrev pub shared_by : Front → Shared
shared_by front = record {
  form = front.form;
  name = option_map (λ n. n.now) front.name;
  group = front.group;
  transaction = front.transaction;
  facts = front.facts;
}

abbrev pub kept_row : Shared → List AnsweringFile → Option KeptAnswer → Row
kept_row shared files kept = record {
  sent = shared.name;
  group = shared.group;
  transaction = shared.transaction;
  facts = shared.facts;
  answer = option_map (answer_in files) kept;
}

abbrev pub kept_text : Shared → List AnsweringFile → Option KeptAnswer → List ℕ
kept_text shared files kept = row_text shared.form (kept_row shared files kept)

-- a row for each of the answers, or one
abbrev pub kept_texts : Shared → List AnsweringFile → List KeptAnswer → List ℕ
kept_texts shared files [] = kept_text shared files None
kept_texts shared files (k ∷ rest) = numbered (λ n kept. kept_text shared files (Some kept)) 0 (k ∷ rest)

abbrev pub transaction_text : Form → Option (List ℕ) → List AnsweringFile → ℕ → List KeptFor → ℕ → SentFacts → List ℕ
transaction_text form name files g answers t f =
    if wants_answer f
    then kept_texts (record { form = form; name = name; group = g; transaction = t; facts = f }) files (sorted_to files t answers)
    else []

abbrev pub group_text : Form → Option (List ℕ) → List AnsweringFile → ℕ → GroupRows → List ℕ
group_text form name files g group = numbered (transaction_text form name files g group.answers) 0 group.facts

abbrev pub sent_text : Form → List (List ℕ) → List AnsweringFile → ℕ → SentShown → List ℕ
sent_text form names files i shown = numbered (group_text form (slice_get names i) files) 1 shown.groups

abbrev pub delivery_text : Form → List (List ℕ) → Held → List ℕ
delivery_text form names h = numbered (sent_text form names h.files) 0 h.sent

abbrev pub held_text : Form → List (List ℕ) → Held → List ℕ
held_text form names h = head_of form ++ delivery_text form names h

-- ---- counts

abbrev pub no_counts : Counts
no_counts = record {
  sent = 0;
  accepted = 0;
  pending = 0;
  rejected = 0;
  conflict = 0;
  duplicate = 0;
  claim_rejected = 0;
  no_participation = 0;
  unanswered = 0;
}

abbrev pub one_more : ℕ → ℕ
one_more n = min (n + 1) most

-- with a row more
abbrev pub counts_with : Counts → State → Counts
counts_with counts state.Accepted = record counts { accepted = one_more counts.accepted }
counts_with counts state.Pending = record counts { pending = one_more counts.pending }
counts_with counts state.Rejected = record counts { rejected = one_more counts.rejected }
counts_with counts state.Conflict = record counts { conflict = one_more counts.conflict }
counts_with counts state.Duplicate = record counts { duplicate = one_more counts.duplicate }
counts_with counts state.ClaimRejected = record counts { claim_rejected = one_more counts.claim_rejected }
counts_with counts state.NoParticipation = record counts { no_participation = one_more counts.no_participation }
counts_with counts state.Unanswered = record counts { unanswered = one_more counts.unanswered }

-- with the rows of a transaction more
abbrev pub counts_by : Counts → List KeptAnswer → Counts
counts_by counts answers = fold (λ c (k : KeptAnswer). counts_with c (state_of k.status)) counts answers

abbrev pub counts_with_answers : Counts → List KeptAnswer → Counts
counts_with_answers counts [] = counts_with counts state.Unanswered
counts_with_answers counts (k ∷ rest) = counts_by counts (k ∷ rest)

abbrev pub counts_with_one : List AnsweringFile → List KeptFor → Counts → ℕ × SentFacts → Counts
counts_with_one files answers counts p =
    if wants_answer p.1
    then counts_with_answers (record counts { sent = one_more counts.sent }) (sorted_to files p.0 answers) else counts

-- with a group more
abbrev pub counts_with_group : List AnsweringFile → Counts → GroupRows → Counts
counts_with_group files counts group = fold (counts_with_one files group.answers) counts (enumerate_from 0 group.facts)

abbrev pub counts_with_sent : List AnsweringFile → Counts → SentShown → Counts
counts_with_sent files counts shown = fold (counts_with_group files) counts shown.groups

abbrev pub counts_held : Held → Counts
counts_held h = fold (counts_with_sent h.files) no_counts h.sent
