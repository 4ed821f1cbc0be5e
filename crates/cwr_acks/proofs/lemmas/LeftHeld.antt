-- What a run leaves of what was kept before it.
use Rattle.std.proofs.Common.{◌≡◌, ℕ, List, [], Option}
use Rattle.std.specs.Prelude.{Result, Ok, Err}
use Rattle.cwr_shape.specs.declared.limits.Limits.{Limits}
use Rattle.cwr_values.specs.declared.items.Item.{Item}
use Rattle.cwr_tools.specs.declared.verdicts.ToolFault.{ToolFault}
use Rattle.cwr_tools.specs.declared.verdicts.ToolFault.TheVariants as faults
use Rattle.cwr_tools.specs.declared.verdicts.Verdict.{Verdict}
use Rattle.cwr_tools.specs.Steps.Reports.{StandsAtEnd}
use Rattle.cwr_delivery.specs.Steps.Deliveries.{Held}
use Rattle.cwr_acks.specs.declared.counts.Answers.{Answers}
use Rattle.cwr_acks.specs.Format.AckLines.{Matched, matched_after}
use Rattle.cwr_acks.specs.Steps.AckSteps.{IsAnswers, IsKept, LeavesHeld, answers_of, held_after}
use Rattle.cwr_acks.proofs.lemmas.LinesOfItems.{left_after}

-- what stands at the end still does where it is said with other words
stands_so : (limits : Limits) (before after : Option (List ℕ)) (outcome : Result Verdict ToolFault) (one other : List Item → Type 0)
    → ((given : List Item) → one given → other given) → StandsAtEnd one limits before after outcome
    → StandsAtEnd other limits before after outcome
stands_so limits before after (Ok verdict) one other so h = (h.0, h.1, so h.0 h.2)
stands_so limits before after (Err faults.Reader) one other so h = (h.0, h.1, so h.0 h.2)
stands_so limits before after (Err (faults.Writer n)) one other so h = tt
stands_so limits before after (Err faults.Memory) one other so h = tt
stands_so limits before after (Err (faults.Refused r)) one other so h = tt
stands_so limits before after (Err (faults.Truncated n)) one other so h = tt
stands_so limits before after (Err faults.Output) one other so h = tt
stands_so limits before after (Err (faults.Limit l)) one other so h = tt

pub left_held : (held : Option Held) (limits : Limits) (before after : Option (List ℕ)) (outcome : Result Verdict ToolFault)
    (left : Option Held) (answers : Answers) (stands : List Item → Type 0)
    → ((given : List Item) → stands given → (left ≡ held_after held given) × (answers ≡ answers_of given))
    → StandsAtEnd stands limits before after outcome → LeavesHeld held limits before after outcome left answers
left_held held limits before after outcome left answers stands so =
    stands_so limits before after outcome stands (λ given. (left ≡ held_after held given) × (answers ≡ answers_of given)) so

pub keeps_answers : (held left : Option Held) (matched : Option Matched) (limits : Limits) (before after : Option (List ℕ))
    (outcome : Result Verdict ToolFault) (answers : Answers) → IsKept held matched []
    → LeavesHeld held limits before after outcome left answers
    → StandsAtEnd (λ given. IsKept left (matched_after matched given) [] × IsAnswers answers given) limits before after outcome
keeps_answers held left matched limits before after outcome answers kept =
    stands_so limits before after outcome (λ given. (left ≡ held_after held given) × (answers ≡ answers_of given))
    (λ given. IsKept left (matched_after matched given) [] × IsAnswers answers given)
    (λ given here. left_after held left matched given answers kept here.0 here.1)
