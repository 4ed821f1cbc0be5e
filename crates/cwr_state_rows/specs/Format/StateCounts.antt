-- How many transactions were sent, and how many rows have each state.
use Rattle.std.specs.Prelude.{ℕ, ◌-◌, ◌^◌, min, Bool, ◌&&◌, ◌||◌, nat_lt, List, ◌++◌, codes, decimal, count_by}
use Rattle.std.specs.List.{flat_map}
use Rattle.std.specs.Str.{bytes_eq}
use Rattle.cwr_states.specs.declared.outcomes.State.{State}
use Rattle.cwr_states.specs.declared.outcomes.State.TheVariants as state
use Rattle.cwr_states.specs.declared.state_sets.States.{States}
use Rattle.cwr_states.specs.Format.StateNames.{name_of}
use Rattle.cwr_sent.specs.Format.SentFacts.{SentContent}
use Rattle.cwr_sent.specs.declared.facts.SentFacts.{SentFacts}
use Rattle.cwr_delivery.specs.declared.deliveries.Tally.{Tally}
use Rattle.cwr_delivery.specs.Format.Answering.{wants_answer}
use Rattle.cwr_delivery.specs.Format.Told.{Delivered}
use Rattle.cwr_state_rows.specs.declared.counts.Counts.{Counts}
use Rattle.cwr_state_rows.specs.Format.StateRows.{Row, state_by}

-- numbers stay at the highest one
abbrev pub most : ℕ
most = 2 ^ 64 - 1

-- so many of the rows have the state
abbrev pub same_state : State → State → Bool
same_state one other = bytes_eq (name_of one) (name_of other)

abbrev pub rows_with : State → List Row → ℕ
rows_with this_state rows = min (count_by (λ row. same_state (state_by row.answer) this_state) rows) most

-- the transactions that want an answer
abbrev pub wanting : List SentContent → List SentFacts
wanting sent = flat_map (λ (content : SentContent). flat_map (λ facts. facts) content.groups) sent

abbrev pub counts_of : Delivered → List Row → Counts
counts_of delivered rows = record {
  sent = min (count_by wants_answer (wanting delivered.sent)) most;
  accepted = rows_with state.Accepted rows;
  pending = rows_with state.Pending rows;
  rejected = rows_with state.Rejected rows;
  conflict = rows_with state.Conflict rows;
  duplicate = rows_with state.Duplicate rows;
  claim_rejected = rows_with state.ClaimRejected rows;
  no_participation = rows_with state.NoParticipation rows;
  unanswered = rows_with state.Unanswered rows;
}

-- a row has one of the states
abbrev pub is_there : Bool → ℕ → Bool
is_there wanted n = wanted && nat_lt 0 n

abbrev pub has_any : Counts → States → Bool
has_any counts states =
    is_there states.accepted counts.accepted || is_there states.pending counts.pending || is_there states.rejected counts.rejected
    || is_there states.conflict counts.conflict || is_there states.duplicate counts.duplicate
    || is_there states.claim_rejected counts.claim_rejected || is_there states.no_participation counts.no_participation
    || is_there states.unanswered counts.unanswered

-- ---- their line

-- a number after its name
abbrev pub named : List ℕ → ℕ → List ℕ
named name n = codes " " ++ name ++ codes " " ++ decimal n

abbrev pub first_counts : Counts → List ℕ
first_counts counts =
    codes "STATE" ++ named (codes "sent") counts.sent ++ named (codes "accepted") counts.accepted
    ++ named (codes "pending") counts.pending ++ named (codes "rejected") counts.rejected ++ named (codes "conflict") counts.conflict

abbrev pub last_counts : Counts → List ℕ
last_counts counts =
    named (codes "duplicate") counts.duplicate ++ named (codes "claim-rejected") counts.claim_rejected
    ++ named (codes "no-participation") counts.no_participation ++ named (codes "unanswered") counts.unanswered

abbrev pub tally_counts : Tally → List ℕ
tally_counts tally =
    named (codes "unsent") tally.unsent ++ named (codes "unclear") tally.unclear ++ named (codes "unkeyed") tally.unkeyed ++ codes "\n"

abbrev pub state_line : Counts → Tally → List ℕ
state_line counts tally = first_counts counts ++ last_counts counts ++ tally_counts tally
