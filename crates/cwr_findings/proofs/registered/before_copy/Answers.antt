use Rattle.std.proofs.Common.{sym, ◌∙◌, arith}
use Rattle.cwr_findings.specs.Format.Findings.{stands_before_copy}
use Rattle.cwr_findings.proofs.lemmas.CopyStarts.{front_more, front_ends, front_whole}
use Rattle.cwr_findings.proofs.registered.before_copy.Goals as goal

pub returns-then-not-stands_before_copy-clause-value :
    goal.returns-then-not-stands_before_copy-clause-value
returns-then-not-stands_before_copy-clause-value c =
    front_ends stands_before_copy c.args.transaction.now c.loop-at.at c.in-Some.shown c.loop-at.invariant
    (sym c.record.ensures.value ∙ c.in-Some.is) (sym c.stands_before_copy.ensures ∙ c.if-not-stands_before_copy.true)

pub loop-at-preserved : goal.loop-at-preserved
loop-at-preserved c =
    front_more stands_before_copy c.args.transaction.now c.loop-at.at c.in-Some.shown c.loop-at.invariant
    (sym c.record.ensures.value ∙ c.in-Some.is) (sym c.stands_before_copy.ensures ∙ c.if-not-stands_before_copy.false)

pub returns-clause-value : goal.returns-clause-value
returns-clause-value c =
    c.len.ensures.len ∙ sym c.len-at-end.ensures.len
    ∙ omega (arith, c.loop-at-test.false, c.loop-at.auto.at-end)
    ∙ front_whole stands_before_copy c.args.transaction.now c.loop-at.at c.loop-at.invariant
    (omega (arith, c.loop-at-test.false, c.len-at-end.ensures.len))
