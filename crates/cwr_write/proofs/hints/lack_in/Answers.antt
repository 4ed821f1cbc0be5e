use Rattle.std.proofs.Common.{◌+◌, drop, sym, ap, ◌∙◌}
use Rattle.cwr_write.specs.declared.hints.Lack.{Lack}
use Rattle.cwr_write.specs.Format.Lacks.{lack_told}
use Rattle.cwr_write.proofs.lemmas.LacksTold.{told_next, told_none}
use Rattle.cwr_write.proofs.hints.lack_in.Goals.{in-Some, in_default}
use Rattle.cwr_write.proofs.hints.lack_in.Goals as goal

pub loop-place-preserved : goal.loop-place-preserved
loop-place-preserved c = elim c.match-record.branch [
  | in-Some w ↦
      ap (λ (l : Lack). lack_told l (drop (c.loop-place.place + 1) c.args.transaction.now)) (w.lack-is ∙ w.lack_with-lack.ensures)
      ∙ told_next c.loop-place.lack c.args.transaction.now c.loop-place.place w.in-Some.record
      (sym c.record.ensures.value ∙ w.in-Some.is) ∙ c.loop-place.invariant
  | in_default w ↦
      ap (λ (l : Lack). lack_told l (drop (c.loop-place.place + 1) c.args.transaction.now)) w.lack-is
      ∙ told_none c.loop-place.lack c.args.transaction.now c.loop-place.place (sym c.record.ensures.value ∙ w.in_default.is)
      ∙ c.loop-place.invariant
]
