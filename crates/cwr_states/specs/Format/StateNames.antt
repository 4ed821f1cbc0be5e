-- What becomes of a transaction that was sent.
use Rattle.std.specs.Prelude.{ℕ, List, [], ◌∷◌, Option, codes, find}
use Rattle.std.specs.Str.{bytes_eq}
use Rattle.cwr_fields.specs.declared.message_codes.TransactionStatus.{TransactionStatus}
use Rattle.cwr_fields.specs.declared.message_codes.TransactionStatus.TheVariants as status
use Rattle.cwr_states.specs.declared.outcomes.State.{State}
use Rattle.cwr_states.specs.declared.outcomes.State.TheVariants as state

-- what the status of an acknowledgement says of the transaction that it answers: AS, AC, SR and CR that it is accepted, RA alone that this is still to come
abbrev pub state_of : TransactionStatus → State
state_of status.RegistrationAccepted = state.Accepted
state_of status.AcceptedWithChanges = state.Accepted
state_of status.ReadyForPayment = state.Accepted
state_of status.ChangedReadyForPayment = state.Accepted
state_of status.TransactionAccepted = state.Pending
state_of status.Rejected = state.Rejected
state_of status.Conflict = state.Conflict
state_of status.Duplicate = state.Duplicate
state_of status.ClaimRejected = state.ClaimRejected
state_of status.NoParticipation = state.NoParticipation

-- the name of each state
abbrev pub name_of : State → List ℕ
name_of state.Accepted = codes "accepted"
name_of state.Pending = codes "pending"
name_of state.Rejected = codes "rejected"
name_of state.Conflict = codes "conflict"
name_of state.Duplicate = codes "duplicate"
name_of state.ClaimRejected = codes "claim-rejected"
name_of state.NoParticipation = codes "no-participation"
name_of state.Unanswered = codes "unanswered"

-- the states
abbrev pub states : List State
states =
    state.Accepted ∷ state.Pending ∷ state.Rejected ∷ state.Conflict ∷ state.Duplicate ∷ state.ClaimRejected ∷ state.NoParticipation
    ∷ state.Unanswered ∷ []

-- the state of that name
abbrev pub state_named : List ℕ → Option State
state_named name = find (λ it. bytes_eq name (name_of it)) states
