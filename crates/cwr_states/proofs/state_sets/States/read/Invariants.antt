use Rattle.std.proofs.Common.{◌≡◌, length}
use denote.Text.{Utf8}
use denote.Shadow.{shadow}
use Rattle.cwr_states.specs.Format.StateSets.{names_in, states_in, with_names}
use Rattle.cwr_states.proofs.state_sets.States.read.Given as goal

abbrev pub invariant-loop-name : goal.invariant-loop-name
invariant-loop-name l = shadow (Utf8 l.rest) × (with_names l.states (names_in l.rest) ≡ states_in l.fn.names)

abbrev pub decreases-loop-name : goal.decreases-loop-name
decreases-loop-name l = length l.rest
