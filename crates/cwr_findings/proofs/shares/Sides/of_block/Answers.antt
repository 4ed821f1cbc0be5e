use Rattle.std.proofs.Common.{List, [], ◌∷◌, ◌++◌, sym, subst, ◌∙◌, true≢false}
use Rattle.cwr_lines.specs.Format.Records.{RecordValue}
use Rattle.cwr_findings.specs.Steps.Walks.{SidesAddUpTo}
use Rattle.cwr_findings.proofs.lemmas.OneMore.{none_there_is_end}
use Rattle.cwr_findings.proofs.lemmas.BlockParties.{all_seen, one_more_seen, end_seen, one_passed}
use Rattle.cwr_findings.proofs.shares.Sides.of_block.Goals as goal
use Rattle.cwr_findings.proofs.shares.Sides.of_block.Goals.{else-among_parties-via-then-among_parties+else-is_of-2}
use Rattle.cwr_findings.proofs.shares.Sides.of_block.Goals.{else-among_parties-via-else-among_parties}

pub returns-in_default : goal.returns-in_default
returns-in_default c =
    subst (λ (l : List RecordValue). SidesAddUpTo l c.loop-i.sides)
    (all_seen c.args.transaction.now c.args.first c.loop-i.i c.loop-i.invariant.0 c.loop-i.among_parties c.loop-i.invariant.2
    (none_there_is_end c.args.transaction.now c.loop-i.i (λ r e. c.in_default.not-Some r (c.record.ensures.value ∙ e))))
    c.loop-i.invariant.1

pub loop-i-preserved-then-is_of : goal.loop-i-preserved-then-is_of
loop-i-preserved-then-is_of c = (
  c.loop-i.invariant.0 ++ c.in-Some.shown ∷ [],
  c.with-sides.ensures c.loop-i.invariant.0 c.loop-i.invariant.1,
  one_more_seen c.args.transaction.now c.args.first c.loop-i.i c.loop-i.invariant.0 c.loop-i.among_parties c.loop-i.invariant.2
      c.in-Some.shown (sym c.record.ensures.value ∙ c.in-Some.is) (sym c.is_of.ensures ∙ c.if-is_of.true),
)

pub returns-then-is_of-2 : goal.returns-then-is_of-2
returns-then-is_of-2 c =
    subst (λ (l : List RecordValue). SidesAddUpTo l c.loop-i.sides)
    (end_seen c.args.transaction.now c.args.first c.loop-i.i c.loop-i.invariant.0 c.loop-i.among_parties c.loop-i.invariant.2
    c.in-Some.shown (sym c.record.ensures.value ∙ c.in-Some.is) c.if-among_parties.true
    (sym c.is_of-then-among_parties.ensures ∙ c.if-is_of-2.true))
    c.loop-i.invariant.1

pub loop-i-preserved : goal.loop-i-preserved
loop-i-preserved c = (
  c.loop-i.invariant.0,
  c.loop-i.invariant.1,
  one_passed c.args.transaction.now c.args.first c.loop-i.i c.loop-i.invariant.0 c.loop-i.among_parties c.loop-i.invariant.2
      c.in-Some.shown (sym c.record.ensures.value ∙ c.in-Some.is) (sym c.is_of.ensures ∙ c.if-is_of.false)
      (λ now. elim c.else-among_parties.branch [
        | else-among_parties-via-then-among_parties+else-is_of-2 w ↦ sym w.is_of-then-among_parties.ensures ∙ w.if-is_of-2.false
        | else-among_parties-via-else-among_parties w ↦ absurd (true≢false (sym now ∙ w.if-among_parties.false))
      ]),
)
