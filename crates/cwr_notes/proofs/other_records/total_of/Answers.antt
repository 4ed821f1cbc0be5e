use Rattle.std.proofs.Common.{ℕ, ◌+◌, sym, ap₂, ◌∙◌, arith}
use Rattle.cwr_notes.specs.Format.FindingNotes.{right_of}
use Rattle.cwr_notes.proofs.lemmas.OwnedShares.{owned_more}
use Rattle.cwr_notes.proofs.other_records.total_of.Goals as goal

pub loop-at-preserved : goal.loop-at-preserved
loop-at-preserved c = record {
  total = ap₂ (λ (m n : ℕ). m + n) c.loop-at.invariant.total c.owned_share-total.ensures.value
      ∙ sym (owned_more (right_of c.args.rule) c.args.transaction.now c.loop-at.at c.in-Some.shown
      (sym c.record.ensures.value ∙ c.in-Some.is));
  small = omega (arith, c.loop-at.invariant.small, c.owned_share-total.ensures.small);
}
