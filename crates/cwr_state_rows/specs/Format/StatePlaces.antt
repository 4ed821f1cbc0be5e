-- The places of rows that have one of some states.
use Rattle.std.specs.Prelude.{ℕ, List, [], ◌∷◌, if◌then◌else◌}
use Rattle.std.specs.List.{flat_map}
use Rattle.cwr_states.specs.declared.outcomes.State.{State}
use Rattle.cwr_states.specs.declared.state_sets.States.{States}
use Rattle.cwr_states.specs.Format.StateSets.{has}
use Rattle.cwr_state_rows.specs.Format.StateRows.{Row, state_by}

-- the place, where the state is one of these
abbrev pub place_if : States → State → ℕ × ℕ → List (ℕ × ℕ)
place_if states this_state place = if has states this_state then place ∷ [] else []

-- the place of a row, that of its group and of its transaction in it, where the row has one of the states
abbrev pub row_place : States → Row → List (ℕ × ℕ)
row_place states row = place_if states (state_by row.answer) (row.group, row.transaction)

-- those of all such rows
abbrev pub state_places : States → List Row → List (ℕ × ℕ)
state_places states rows = flat_map (row_place states) rows
