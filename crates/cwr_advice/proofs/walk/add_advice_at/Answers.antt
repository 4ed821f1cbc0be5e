use Rattle.std.proofs.Common.{◌≡◌, ◌++◌, ap, sym, ◌∙◌}
use Rattle.cwr_advice.specs.declared.rules.Asked.{Asked}
use Rattle.cwr_advice.specs.Format.Rules.{advice_of_asked, asked_of, breaks}
use Rattle.cwr_advice.proofs.lemmas.KeptInTurn.{kept, kept_all, on_err, some_kept}
use Rattle.cwr_advice.proofs.walk.add_advice_at.Goals as goal

pub returns-in_err-push-clause-err : goal.returns-in_err-push-clause-err
returns-in_err-push-clause-err c =
    let all : c.asked_of-asked-items.result.now ≡ asked_of c.args.shown.now.kind =
    c.asked_of-asked-items.ensures ∙ ap asked_of c.kind.ensures.value in
    on_err c.from_residual.result _ (λ none. some_kept
    (λ (asked : Asked). breaks c.args.said asked.rule c.args.transaction.now c.args.sequence c.args.shown.now asked.field)
    (advice_of_asked c.args.sequence)
    c.asked_of-asked-items.result.now c.loop-asked.asked-index _ c.loop-asked-test.true (sym c.breaks.ensures ∙ c.if-breaks.true)
    (ap (kept
    (λ (asked : Asked). breaks c.args.said asked.rule c.args.transaction.now c.args.sequence c.args.shown.now asked.field)
    (advice_of_asked c.args.sequence)) all ∙ none))

pub returns-clause-ok : goal.returns-clause-ok
returns-clause-ok c =
    let all : c.asked_of-asked-items.result.now ≡ asked_of c.args.shown.now.kind =
    c.asked_of-asked-items.ensures ∙ ap asked_of c.kind.ensures.value in
    c.loop-asked.invariant
    ∙ ap (◌++◌ c.args.found.now.items) (kept_all
    (λ (asked : Asked). breaks c.args.said asked.rule c.args.transaction.now c.args.sequence c.args.shown.now asked.field)
    (advice_of_asked c.args.sequence) c.asked_of-asked-items.result.now c.loop-asked.asked-index c.loop-asked-test.false
    ∙ ap (kept
    (λ (asked : Asked). breaks c.args.said asked.rule c.args.transaction.now c.args.sequence c.args.shown.now asked.field)
    (advice_of_asked c.args.sequence)) all)
