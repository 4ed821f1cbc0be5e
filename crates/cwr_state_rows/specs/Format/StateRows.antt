-- What became of each transaction that was sent: a row for each sender that answers it, or one where nobody does.
use Rattle.std.specs.Prelude.{ℕ, Bool, true, false, ◌==◌, nat_lt, List, [], ◌∷◌, Option, Some, None, map, slice_get, if◌then◌else◌}
use Rattle.std.specs.List.{enumerate_from, flat_map}
use Rattle.cwr_states.specs.declared.outcomes.State.{State}
use Rattle.cwr_states.specs.declared.outcomes.State.TheVariants as state
use Rattle.cwr_states.specs.Format.StateNames.{state_of}
use Rattle.cwr_sent.specs.declared.facts.SentFacts.{SentFacts}
use Rattle.cwr_sent.specs.Format.Answers.{Answer, counting_ones}
use Rattle.cwr_sent.specs.Format.SentFacts.{SentContent}
use Rattle.cwr_delivery.specs.Format.Answering.{wants_answer}
use Rattle.cwr_delivery.specs.Format.Told.{Delivered, Told, answers_to}

-- ---- the order of senders

-- one text stands before another as bytes: by the first byte that differs, and a text before those that begin with it
abbrev pub bytes_before : List ℕ → List ℕ → Bool
bytes_before xs [] = false
bytes_before [] (y ∷ ys) = true
bytes_before (x ∷ xs) (y ∷ ys) = if x == y then bytes_before xs ys else nat_lt x y

abbrev pub sender_before : Answer → Answer → Bool
sender_before one other = bytes_before one.sender other.sender

-- an answer stands before the first one of a later sender
abbrev pub inserted : Answer → List Answer → List Answer
inserted new [] = new ∷ []
inserted new (a ∷ rest) = if sender_before new a then new ∷ a ∷ rest else a ∷ inserted new rest

-- answers, sorted by their senders
abbrev pub by_sender : List Answer → List Answer
by_sender [] = []
by_sender (a ∷ rest) = inserted a (by_sender rest)

-- ---- rows

-- the name of what was sent, as it is shown; the group, from 1, and the transaction in it, from 0; what was sent; and an answer to it
pub record Row : Type 0 where
  pub sent : Option (List ℕ)
  pub group : ℕ
  pub transaction : ℕ
  pub facts : SentFacts
  pub answer : Option Answer

-- what became of a transaction, by an answer to it
abbrev pub state_by : Option Answer → State
state_by None = state.Unanswered
state_by (Some a) = state_of a.status

-- each of the answers, or one time none
abbrev pub or_none : List Answer → List (Option Answer)
or_none [] = None ∷ []
or_none (a ∷ rest) = map Some (a ∷ rest)

-- the rows of a transaction with these answers
abbrev pub answer_rows : Option (List ℕ) → ℕ → ℕ → SentFacts → List Answer → List Row
answer_rows name g t f answers =
    map (λ a. record { sent = name; group = g; transaction = t; facts = f; answer = a }) (or_none answers)

-- the answers that count of those that were read
abbrev pub answers_counting : Delivered → List Told → ℕ → ℕ → ℕ → List Answer
answers_counting delivered told i g t = by_sender (counting_ones (answers_to delivered told i g t))

-- the rows of transaction t, from 0, of group g, from 1, of transmission i, from 0; of an acknowledgement there are none
abbrev pub transaction_rows : Delivered → List Told → List (List ℕ) → ℕ → ℕ → ℕ → SentFacts → List Row
transaction_rows delivered told names i g t f =
    if wants_answer f then answer_rows (slice_get names i) g t f (answers_counting delivered told i g t) else []

abbrev pub group_rows : Delivered → List Told → List (List ℕ) → ℕ → ℕ → List SentFacts → List Row
group_rows delivered told names i g facts =
    flat_map (λ p. transaction_rows delivered told names i g p.0 p.1) (enumerate_from 0 facts)

abbrev pub sent_rows : Delivered → List Told → List (List ℕ) → ℕ → SentContent → List Row
sent_rows delivered told names i content =
    flat_map (λ p. group_rows delivered told names i p.0 p.1) (enumerate_from 1 content.groups)

-- all rows, with the names of what was sent as they are shown: by the order in which that was given, its groups and transactions, and
-- the senders
abbrev pub rows_of : Delivered → List Told → List (List ℕ) → List Row
rows_of delivered told names =
    flat_map (λ p. sent_rows delivered told names p.0 p.1) (enumerate_from 0 delivered.sent)
