use Rattle.std.proofs.Common.{◌≡◌, ◌++◌, take}
use Rattle.cwr_advice.specs.Format.Rules.{advice_of_asked, breaks}
use Rattle.cwr_advice.proofs.lemmas.KeptInTurn.{kept}
use Rattle.cwr_advice.proofs.walk.add_advice_at.Given as goal

abbrev pub invariant-loop-asked : goal.invariant-loop-asked
invariant-loop-asked l =
    l.found.items ≡ l.initial.found.items ++ kept (λ asked. breaks l.said asked.rule l.transaction l.sequence l.shown asked.field)
    (advice_of_asked l.sequence) (take l.asked-index l.asked-items)
