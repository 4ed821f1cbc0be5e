-- What became of the transactions of a file, by the acknowledgements of others.
use Rattle.std.specs.Prelude.{◌≡◌, ℕ, Bool, List, [], ◌∷◌, Option, Some, None}
use Rattle.std.specs.List.{AllZip, flat_map}
use Rattle.cwr_shape.specs.declared.limits.Limits.{Limits}
use Rattle.cwr_values.specs.Format.Values.{TransmissionValue}
use Rattle.cwr_judge.specs.Format.Ends.{IsAccepted}
use Rattle.cwr_judge.specs.Format.Items.{value_items}
use Rattle.cwr_states.specs.declared.state_sets.States.{States}
use Rattle.cwr_sent.specs.Format.SentFacts.{content_of}
use Rattle.cwr_delivery.specs.Format.Told.{no_history, read_after}
use Rattle.cwr_state_rows.specs.Format.StatePlaces.{state_places}
use Rattle.cwr_state_rows.specs.Format.StateRows.{rows_of}
use Rattle.cwr_files.specs.Format.Files.{Texts}
use Rattle.cwr_files.specs.Format.Inputs.{IfRead}

-- the text that a word names is accepted as the transmission, where it is known
abbrev pub IsAcceptedAt : Limits → Option Texts → Option (List ℕ) → List ℕ → TransmissionValue → Type 0
IsAcceptedAt limits held standard name v = IfRead held standard (Some name) (λ text. (n : ℕ) × IsAccepted limits text v n)

-- The places are those of the rows, with one of the states, that the table has of what was sent and of acknowledgements read one after another.
pub record AreAnswered (limits : Limits) (by_place : Bool) (states : States) (held : Option Texts) (standard : Option (List ℕ)) (sent : List ℕ)
    (names : List (List ℕ)) (places : List (ℕ × ℕ)) : Type 0 where
  pub value : TransmissionValue
  pub answers : List TransmissionValue
  pub was_sent : IsAcceptedAt limits held standard sent value
  pub were_read : AllZip (IsAcceptedAt limits held standard) names answers
  pub places_are : places ≡ state_places states (rows_of (record { by_place = by_place; sent = content_of value ∷ [] })
      (read_after no_history (flat_map value_items answers)).told [])
