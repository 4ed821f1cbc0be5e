use Rattle.std.proofs.Common.{sym, ap, ◌∙◌, ◌++◌}
use Rattle.cwr_findings.specs.Steps.Walks.{rules_on}
use Rattle.cwr_findings.proofs.lemmas.FoundByRule.{found_by_end, some_found, on_err}
use Rattle.cwr_findings.proofs.walk.add_findings_at.Goals as goal

pub returns-in_err-push-clause-err : goal.returns-in_err-push-clause-err
returns-in_err-push-clause-err c =
    on_err c.from_residual.result _ (some_found c.args.start c.args.transaction.now c.args.sequence c.args.shown.now
    c.rules_on-rule-items.result.now c.loop-rule.rule-index _
    c.requires.there (c.rules_on-rule-items.ensures ∙ ap rules_on c.kind-kind.ensures.value) c.loop-rule-test.true
    (sym c.breaks.ensures ∙ c.if-breaks.true))

pub returns-clause-ok : goal.returns-clause-ok
returns-clause-ok c =
    c.loop-rule.invariant ∙ ap (◌++◌ c.args.found.now.items) (found_by_end c.args.start c.args.transaction.now c.args.sequence
    c.args.shown.now c.rules_on-rule-items.result.now c.loop-rule.rule-index
    c.requires.there (c.rules_on-rule-items.ensures ∙ ap rules_on c.kind-kind.ensures.value) c.loop-rule-test.false)
