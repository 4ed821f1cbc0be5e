-- The places of what is kept that has one of some states.
use Rattle.std.specs.Prelude.{◌≡◌, ℕ, List, [], ◌∷◌, if◌then◌else◌}
use Rattle.std.specs.List.{enumerate_from, flat_map}
use Rattle.cwr_states.specs.declared.outcomes.State.TheVariants as state
use Rattle.cwr_states.specs.declared.state_sets.States.{States}
use Rattle.cwr_states.specs.Format.StateNames.{state_of}
use Rattle.cwr_sent.specs.declared.answers.AnsweringFile.{AnsweringFile}
use Rattle.cwr_sent.specs.declared.answers.KeptAnswer.{KeptAnswer}
use Rattle.cwr_sent.specs.declared.facts.SentFacts.{SentFacts}
use Rattle.cwr_sent.specs.Format.GroupRows.{GroupRows, KeptFor}
use Rattle.cwr_sent.specs.Format.SentRows.{SentShown}
use Rattle.cwr_delivery.specs.declared.deliveries.Delivery.{Delivery}
use Rattle.cwr_delivery.specs.Format.Answering.{wants_answer}
use Rattle.cwr_delivery.specs.Format.Told.{Delivered, History}
use Rattle.cwr_delivery.specs.Steps.Deliveries.{Held, held_in}
use Rattle.cwr_delivery.specs.Steps.Keeping.{Keeps}
use Rattle.cwr_state_rows.specs.Format.StatePlaces.{place_if, state_places}
use Rattle.cwr_state_rows.specs.Format.StateRows.{rows_of}
use Rattle.cwr_state_rows.specs.Steps.HeldRows.{sorted_to}

-- of a transaction at that place, for each of its answers
abbrev pub each_place : States → ℕ × ℕ → List KeptAnswer → List (ℕ × ℕ)
each_place states place answers = flat_map (λ (k : KeptAnswer). place_if states (state_of k.status) place) answers

-- or where it has none
abbrev pub kept_places : States → ℕ × ℕ → List KeptAnswer → List (ℕ × ℕ)
kept_places states place [] = place_if states state.Unanswered place
kept_places states place (k ∷ rest) = each_place states place (k ∷ rest)

-- of a transaction of group g
abbrev pub transaction_places : States → List AnsweringFile → ℕ → List KeptFor → ℕ × SentFacts → List (ℕ × ℕ)
transaction_places states files g answers p =
    if wants_answer p.1 then kept_places states (g, p.0) (sorted_to files p.0 answers) else []

abbrev pub group_places : States → List AnsweringFile → ℕ × GroupRows → List (ℕ × ℕ)
group_places states files p = flat_map (transaction_places states files p.0 p.1.answers) (enumerate_from 0 p.1.facts)

abbrev pub sent_places : States → List AnsweringFile → SentShown → List (ℕ × ℕ)
sent_places states files shown = flat_map (group_places states files) (enumerate_from 1 shown.groups)

abbrev pub held_places : States → Held → List (ℕ × ℕ)
held_places states h = flat_map (sent_places states h.files) h.sent

-- the places are those of rows of what was sent and read that have one of the states, whatever the names are
abbrev pub PlacesTold : Delivery → States → List (ℕ × ℕ) → Type 0
PlacesTold delivery states places =
    (names : List (List ℕ)) (delivered : Delivered) (history : History) → Keeps delivered history (held_in delivery)
    → places ≡ state_places states (rows_of delivered history.told names)
