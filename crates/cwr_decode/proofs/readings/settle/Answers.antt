use Rattle.std.proofs.Common.{◌≡◌, ℕ, List, Option, None, subst, sym}
use Rattle.std.specs.Prelude.{IfNone, IfSome}
use Rattle.cwr_decode.specs.declared.outcomes.Outcome.{Outcome}
use Rattle.cwr_decode.specs.Steps.Machines.{Standing}
use Rattle.cwr_decode.specs.Steps.Readings.{FeedsOn, answer_of}
use Rattle.cwr_decode.proofs.readings.settle.Goals as goal

pub returns-then-is_settled-clause-again : goal.returns-then-is_settled-clause-again
returns-then-is_settled-clause-again c =
    let live = (c.is_settled.ensures.continues c.if-is_settled.true None).live in
    subst
    (λ (o : Option Outcome). IfSome o (λ outcome. (None ≡ answer_of outcome) × (c.is_settled.new.self ≡ c.args.decoder.now)))
    (sym live) tt

pub returns-clause-continues : goal.returns-clause-continues
returns-clause-continues c =
    subst
    (λ (d : Standing). IfNone c.answer_now.result ((left : Option (List ℕ)) → FeedsOn 0 d left c.answer_now.new.decoder left))
    (c.is_settled.ensures.kept c.if-is_settled.false) c.answer_now.ensures.continues
