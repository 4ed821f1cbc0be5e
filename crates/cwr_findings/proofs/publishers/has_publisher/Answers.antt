use Rattle.std.proofs.Common.{sym, ◌∙◌, arith}
use Rattle.cwr_findings.specs.Steps.Walks.{is_publisher}
use Rattle.cwr_findings.proofs.lemmas.OneMore.{any_there, none_more, none_at_end, none_there_is_end}
use Rattle.cwr_findings.proofs.publishers.has_publisher.Goals as goal

pub returns-then-is_publisher : goal.returns-then-is_publisher
returns-then-is_publisher c =
    sym (any_there (is_publisher c.args.number.now) c.args.transaction.now c.loop-i.i c.args.end c.in-Some.shown
    (sym c.record.ensures.value ∙ c.in-Some.is)
    (sym c.is_publisher.ensures ∙ c.if-is_publisher.true) c.loop-i-test.true)

pub loop-i-preserved : goal.loop-i-preserved
loop-i-preserved c =
    none_more (is_publisher c.args.number.now) c.args.transaction.now c.loop-i.i c.in-Some.shown
    (sym c.record.ensures.value ∙ c.in-Some.is) c.loop-i.invariant
    (sym c.is_publisher.ensures ∙ c.if-is_publisher.false)

pub returns-in_default : goal.returns-in_default
returns-in_default c = none_at_end (is_publisher c.args.number.now) c.args.transaction.now c.loop-i.i c.args.end
    (none_there_is_end c.args.transaction.now c.loop-i.i (λ r e. c.in_default.not-Some r (c.record.ensures.value ∙ e)))
    (omega (arith, c.loop-i-test.true)) c.loop-i.invariant
