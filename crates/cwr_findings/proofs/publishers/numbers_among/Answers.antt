use Rattle.std.proofs.Common.{◌+◌, take, sym, subst, ◌∙◌, arith}
use Rattle.cwr_findings.specs.Steps.Walks.{HasNumbersOf}
use Rattle.cwr_findings.proofs.lemmas.OneMore.{none_there_is_end}
use Rattle.cwr_findings.proofs.lemmas.PublisherNumbers.{one_more_publisher, one_more_other, all_numbers}
use Rattle.cwr_findings.proofs.publishers.numbers_among.Goals as goal
use Rattle.cwr_findings.proofs.publishers.numbers_among.Goals.{then-is_of+in_ok-insert, else-is_of, else-loop-i-test}
use Rattle.cwr_findings.proofs.publishers.numbers_among.Goals.{then-loop-i-test+in_default}

pub loop-i-preserved : goal.loop-i-preserved
loop-i-preserved c =
    let there = sym c.record.ensures.value ∙ c.in-Some.is in
    elim c.if-is_of.branch [
      | then-is_of+in_ok-insert w ↦ subst (HasNumbersOf (take (c.loop-i.i + 1) c.args.transaction.now)) (sym w.numbers-is)
          (one_more_publisher c.args.transaction.now c.loop-i.i c.in-Some.shown w.cell.result c.loop-i.numbers w.insert.new.self
          there (sym c.is_of.ensures ∙ w.if-is_of.true)
          w.cell.ensures.fits w.cell.ensures.value c.loop-i.invariant w.in_ok-insert.ensures.updates)
      | else-is_of w ↦ subst (HasNumbersOf (take (c.loop-i.i + 1) c.args.transaction.now)) (sym w.numbers-is)
          (one_more_other c.args.transaction.now c.loop-i.i c.in-Some.shown c.loop-i.numbers there
          (sym c.is_of.ensures ∙ w.if-is_of.false) c.loop-i.invariant)
    ]

pub returns : goal.returns
returns c = elim c.loop-i-test.branch [
  | else-loop-i-test w ↦ subst (λ n. HasNumbersOf (take n c.args.transaction.now) c.loop-i.numbers)
      (omega (arith, w.loop-i-test.false, c.loop-i.auto.i-end)) c.loop-i.invariant
  | then-loop-i-test+in_default w ↦ all_numbers c.args.transaction.now c.loop-i.i c.args.end c.loop-i.numbers
      (none_there_is_end c.args.transaction.now c.loop-i.i (λ r e. w.in_default.not-Some r (w.record.ensures.value ∙ e)))
      c.loop-i.auto.i-end c.loop-i.invariant
]
