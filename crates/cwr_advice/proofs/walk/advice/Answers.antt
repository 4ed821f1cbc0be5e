use Rattle.std.proofs.Common.{◌≡◌, ◌++◌, ◌≤◌, List, [], false, length, ap, sym, ◌∙◌, arith}
use Rattle.std.specs.Prelude.{◌≢◌}
use Rattle.cwr_advice.specs.declared.rules.Advice.{Advice}
use Rattle.cwr_advice.specs.Format.Rules.{advice_at, advice_of, is_acknowledgement}
use Rattle.cwr_advice.proofs.lemmas.AdviceByRecord.{advice_more, advice_whole, none_on, some_advice}
use Rattle.cwr_advice.proofs.lemmas.BegunChains.{none_within}
use Rattle.cwr_advice.proofs.lemmas.KeptInTurn.{on_err}
use Rattle.cwr_advice.proofs.walk.advice.Goals as goal

pub returns-then-is_acknowledgement-clause-ok : goal.returns-then-is_acknowledgement-clause-ok
returns-then-is_acknowledgement-clause-ok c =
    c.new-found.ensures.items
    ∙ none_on c.args.said c.args.transaction.now (sym c.is_acknowledgement.ensures ∙ c.if-is_acknowledgement.true)

pub returns-in_default-clause-ok : goal.returns-in_default-clause-ok
returns-in_default-clause-ok c =
    let other : is_acknowledgement c.args.transaction.now ≡ false =
    sym c.is_acknowledgement.ensures ∙ c.if-is_acknowledgement.false in
    let end : length c.args.transaction.now ≤ c.loop-sequence.sequence =
    none_within c.args.transaction.now c.loop-sequence.sequence (sym c.in_default.is ∙ c.record.ensures.value) in
    c.loop-sequence.invariant ∙ advice_whole c.args.said c.args.transaction.now c.loop-sequence.sequence other end

pub returns-in_err-add_advice_at-clause-err : goal.returns-in_err-add_advice_at-clause-err
returns-in_err-add_advice_at-clause-err c =
    let other : is_acknowledgement c.args.transaction.now ≡ false =
    sym c.is_acknowledgement.ensures ∙ c.if-is_acknowledgement.false in
    on_err c.from_residual.result (advice_of c.args.said c.args.transaction.now ≢ [])
    (some_advice c.args.said c.args.transaction.now c.loop-sequence.sequence c.in-Some.shown other
    (sym c.record.ensures.value ∙ c.in-Some.is) c.in_err-add_advice_at.ensures.err)

pub loop-sequence-preserved : goal.loop-sequence-preserved
loop-sequence-preserved c =
    c.in_ok-add_advice_at.ensures.ok ∙ ap
    (λ (l : List Advice). l ++ advice_at c.args.said c.args.transaction.now c.loop-sequence.sequence c.in-Some.shown)
    c.loop-sequence.invariant
    ∙ advice_more c.args.said c.args.transaction.now c.loop-sequence.sequence c.in-Some.shown
    (sym c.record.ensures.value ∙ c.in-Some.is)

pub returns-clause-ok : goal.returns-clause-ok
returns-clause-ok c =
    let other : is_acknowledgement c.args.transaction.now ≡ false =
    sym c.is_acknowledgement.ensures ∙ c.if-is_acknowledgement.false in
    c.loop-sequence.invariant ∙ advice_whole c.args.said c.args.transaction.now c.loop-sequence.sequence other
    (omega (arith, c.loop-sequence-test.false, c.len-sequence-end.ensures.len))
