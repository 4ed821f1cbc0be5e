-- Sets of states.
use Rattle.std.specs.Prelude.{ℕ, Bool, true, false, List, [], ◌∷◌, ◌==◌, Option, Some}
use Rattle.std.specs.List.{slice_split}
use Rattle.std.specs.Option.{option_and_then}
use Rattle.cwr_states.specs.declared.outcomes.State.{State}
use Rattle.cwr_states.specs.declared.outcomes.State.TheVariants as state
use Rattle.cwr_states.specs.declared.state_sets.States.{States}
use Rattle.cwr_states.specs.Format.StateNames.{state_named}

-- the state is one of the set
abbrev pub has : States → State → Bool
has set state.Accepted = set.accepted
has set state.Pending = set.pending
has set state.Rejected = set.rejected
has set state.Conflict = set.conflict
has set state.Duplicate = set.duplicate
has set state.ClaimRejected = set.claim_rejected
has set state.NoParticipation = set.no_participation
has set state.Unanswered = set.unanswered

-- the set of none
abbrev pub no_states : States
no_states =
    record {
      accepted = false;
      pending = false;
      rejected = false;
      conflict = false;
      duplicate = false;
      claim_rejected = false;
      no_participation = false;
      unanswered = false;
    }

-- the set with that state, too
abbrev pub with_state : States → State → States
with_state set state.Accepted = record set { accepted = true }
with_state set state.Pending = record set { pending = true }
with_state set state.Rejected = record set { rejected = true }
with_state set state.Conflict = record set { conflict = true }
with_state set state.Duplicate = record set { duplicate = true }
with_state set state.ClaimRejected = record set { claim_rejected = true }
with_state set state.NoParticipation = record set { no_participation = true }
with_state set state.Unanswered = record set { unanswered = true }

-- the names that a text has between its commas
abbrev pub names_in : List ℕ → List (List ℕ)
names_in text = slice_split (λ b. b == 44) text

-- the set with the states of these names, too, or none where a name is no state's
abbrev pub with_names : States → List (List ℕ) → Option States
with_names set [] = Some set
with_names set (name ∷ rest) = option_and_then (λ it. with_names (with_state set it) rest) (state_named name)

-- the states whose names a text has, with commas between them, or none where one is no state's
abbrev pub states_in : List ℕ → Option States
states_in text = with_names no_states (names_in text)
