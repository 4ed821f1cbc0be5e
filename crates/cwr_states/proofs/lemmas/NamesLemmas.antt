-- Names with commas between them, one by one.
use Rattle.std.proofs.Common.{◌≡◌, ◌==◌, ◌<◌, ℕ, List, Some, None, length, arith, ap, ◌∙◌}
use Rattle.std.specs.List.{after_first, before_first, position_or_len}
use Rattle.std.specs.Option.{option_and_then}
use Rattle.std.proofs.lemmas.List.Splits.{slice_split_first, slice_split_none}
use Rattle.std.proofs.lemmas.List.Sums.{fails_before_first}
use Rattle.cwr_states.specs.declared.outcomes.State.{State}
use Rattle.cwr_states.specs.declared.state_sets.States.{States}
use Rattle.cwr_states.specs.Format.StateNames.{state_named}
use Rattle.cwr_states.specs.Format.StateSets.{names_in, with_names, with_state}

-- the name before the first comma, and then those after it
pub first_of_names : (set : States) (text : List ℕ) → position_or_len (λ b. b == 44) text < length text
    → with_names set (names_in text)
    ≡ option_and_then (λ it. with_names (with_state set it) (names_in (after_first (λ b. b == 44) text)))
    (state_named (before_first (λ b. b == 44) text))
first_of_names set text comma = ap (with_names set) (slice_split_first (λ b. b == 44) text 0 comma)

-- without a comma there is one name
pub only_name : (set : States) (text : List ℕ) → position_or_len (λ b. b == 44) text ≡ length text
    → with_names set (names_in text) ≡ option_and_then (λ it. Some (with_state set it)) (state_named text)
only_name set text alone =
    ap (with_names set)
    (slice_split_none (λ b. b == 44) text (λ k d within. fails_before_first (λ b. b == 44) text k d (omega (arith, alone, within))))

-- so the states of the names after the first comma are added to its state
pub first_is_added : (set : States) (text : List ℕ) (it : State) → position_or_len (λ b. b == 44) text < length text
    → state_named (before_first (λ b. b == 44) text) ≡ Some it
    → with_names set (names_in text) ≡ with_names (with_state set it) (names_in (after_first (λ b. b == 44) text))
first_is_added set text it comma named =
    first_of_names set text comma
    ∙ ap (option_and_then (λ it. with_names (with_state set it) (names_in (after_first (λ b. b == 44) text)))) named

-- and there are none where the first is no state's
pub first_is_none : (set : States) (text : List ℕ) → position_or_len (λ b. b == 44) text < length text
    → state_named (before_first (λ b. b == 44) text) ≡ None → with_names set (names_in text) ≡ None
first_is_none set text comma unnamed =
    first_of_names set text comma
    ∙ ap (option_and_then (λ it. with_names (with_state set it) (names_in (after_first (λ b. b == 44) text)))) unnamed

-- nor where the only one is
pub only_is_none : (set : States) (text : List ℕ) → position_or_len (λ b. b == 44) text ≡ length text → state_named text ≡ None
    → with_names set (names_in text) ≡ None
only_is_none set text alone unnamed = only_name set text alone ∙ ap (option_and_then (λ it. Some (with_state set it))) unnamed
