-- What an acknowledgement answers, by how many transactions were found.
use Rattle.std.specs.Prelude.{ℕ, List, [], ◌∷◌, Option, Some, None}
use Rattle.cwr_lines.specs.Format.Records.{RecordValue}
use Rattle.cwr_sent.specs.declared.facts.SentFacts.{SentFacts}
use Rattle.cwr_delivery.specs.declared.outcomes.Few.{Few}
use Rattle.cwr_delivery.specs.declared.outcomes.Few.TheVariants as few
use Rattle.cwr_delivery.specs.declared.outcomes.Outcome.{Outcome}
use Rattle.cwr_delivery.specs.declared.outcomes.Outcome.TheVariants as outcomes
use Rattle.cwr_delivery.specs.Format.Answering.{differing}

abbrev pub few_of : List (ℕ × SentFacts) → Few
few_of [] = few.Nothing
few_of (p ∷ []) = few.One p.0 p.1
few_of found = few.Several

abbrev pub few_with : Few → ℕ → SentFacts → Few
few_with few.Nothing i f = few.One i f
few_with found i f = few.Several

abbrev pub outcome_few : Few → Few → RecordValue → Outcome
outcome_few (few.One i f) standing a = outcomes.Answers i f
outcome_few few.Several standing a = outcomes.Unclear
outcome_few few.Nothing (few.One i f) a = differing a f
outcome_few few.Nothing standing a = outcomes.Unsent

abbrev pub few_with_found : Few → ℕ → Option SentFacts → Few
few_with_found found i None = found
few_with_found found i (Some f) = few_with found i f
