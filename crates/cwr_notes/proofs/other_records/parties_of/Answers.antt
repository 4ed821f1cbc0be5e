use Rattle.std.proofs.Common.{ℕ, List, [], ◌∷◌, ◌++◌, sym, subst, ◌∙◌, true≢false, arith}
use Rattle.cwr_notes.specs.Steps.OtherRecords.{AreListed}
use Rattle.cwr_notes.proofs.lemmas.OthersListed.{both_true, end_of_block, not_both, one_over, one_party}
use Rattle.cwr_notes.proofs.other_records.parties_of.Goals as goal
use Rattle.cwr_notes.proofs.other_records.parties_of.Goals.{else-among_parties-via-then-among_parties+else-is_of-2}
use Rattle.cwr_notes.proofs.other_records.parties_of.Goals.{else-among_parties-via-else-among_parties}

pub loop-at-preserved-then-is_of : goal.loop-at-preserved-then-is_of
loop-at-preserved-then-is_of c = (
  c.loop-at.invariant.0 ++ c.loop-at.at ∷ [],
  c.add.ensures.listed c.loop-at.invariant.0 c.loop-at.invariant.1,
  one_party c.args.transaction.now _ c.loop-at.at c.loop-at.invariant.0 c.loop-at.among_parties c.loop-at.invariant.2
      c.in-Some.shown (sym c.record.ensures.value ∙ c.in-Some.is) (sym c.is_of.ensures ∙ c.if-is_of.true),
  omega (arith, c.add.ensures.count, c.loop-at.invariant.3),
)

pub returns-then-is_of-2 : goal.returns-then-is_of-2
returns-then-is_of-2 c =
    subst (λ (all : List ℕ). AreListed all c.loop-at.found)
    (end_of_block c.args.transaction.now _ c.loop-at.at c.loop-at.invariant.0 c.loop-at.among_parties c.loop-at.invariant.2
    c.in-Some.shown (sym c.record.ensures.value ∙ c.in-Some.is) (sym c.is_of.ensures ∙ c.if-is_of.false)
    (both_true _ _ c.if-among_parties.true (sym c.is_of-then-among_parties.ensures ∙ c.if-is_of-2.true)))
    c.loop-at.invariant.1

pub loop-at-preserved : goal.loop-at-preserved
loop-at-preserved c = (
  c.loop-at.invariant.0,
  c.loop-at.invariant.1,
  one_over c.args.transaction.now _ c.loop-at.at c.loop-at.invariant.0 c.loop-at.among_parties c.loop-at.invariant.2
      c.in-Some.shown (sym c.record.ensures.value ∙ c.in-Some.is) (sym c.is_of.ensures ∙ c.if-is_of.false)
      (not_both _ _ (λ now. elim c.else-among_parties.branch [
        | else-among_parties-via-then-among_parties+else-is_of-2 w ↦ sym w.is_of-then-among_parties.ensures ∙ w.if-is_of-2.false
        | else-among_parties-via-else-among_parties w ↦ absurd (true≢false (sym now ∙ w.if-among_parties.false))
      ])),
  omega (arith, c.loop-at.invariant.3),
)
