use Rattle.std.proofs.Common.{◌≡◌, ℕ, List, length, Some, refl, sym, ap, ◌∙◌, arith}
use Rattle.std.specs.Prelude.{slice_get}
use Rattle.std.proofs.lemmas.Option.{slice_get_past, slice_get_read}
use Rattle.cwr_devices.proofs.lemmas.Adding.{adds_all, adds_as, adds_next, adds_nothing}
use Rattle.cwr_advise.specs.Format.AdviceTexts.{noted_advice}
use Rattle.cwr_advise.specs.Steps.AdviceCounts.{counted_from, counts_with, lines_by}
use Rattle.cwr_advise.proofs.lemmas.AdviceCounted.{counted-at, counted-none, counts-next, told-lines}
use Rattle.cwr_advise.proofs.item_advice.told_lines.Goals as goal

pub loop-advice-init : goal.loop-advice-init
loop-advice-init g c = record { within = omega arith; told = refl; adds = adds_nothing }

pub loop-advice-preserved : goal.loop-advice-preserved
loop-advice-preserved g c =
    let there : Some c.in-Some.advice.now ≡ slice_get c.args.found.now c.loop-advice.i
    = sym (slice_get_read c.args.found.now (length c.args.found.now) c.loop-advice.i c.in-Some.advice.now refl
    c.in-Some.ensures.lookup.3.0 c.in-Some.ensures.lookup.1) in
    record {
      within = omega (arith, c.in-Some.ensures.lookup.3.0);
      told =
          c.counted_lines.ensures.told
          ∙ ap (λ (counts : List ℕ). counts_with counts c.in-Some.advice.now.rule) c.loop-advice.invariant.told
          ∙ sym (counts-next c.args.told.now c.args.found.now c.loop-advice.i c.in-Some.advice.now there);
      adds =
          adds_next (lines_by (noted_advice c.args.manner.apart c.args.group c.args.sequence c.args.first c.args.transaction.now)
          c.args.manner.all) (counted_from c.args.told.now c.args.found.now) c.loop-advice.i (c.loop-advice.told, c.in-Some.advice.now)
          (ap (λ (counts : List ℕ). Some (counts, c.in-Some.advice.now)) c.loop-advice.invariant.told
          ∙ counted-at c.args.told.now c.args.found.now c.loop-advice.i c.in-Some.advice.now there)
          c.loop-advice.invariant.adds c.counted_lines.ensures.adds;
    }

pub returns-clause-adds : goal.returns-clause-adds
returns-clause-adds g c =
    let lines = noted_advice c.args.manner.apart c.args.group c.args.sequence c.args.first c.args.transaction.now in
    adds_as (told-lines lines c.args.manner.all c.args.told.now c.args.found.now)
    (adds_all (lines_by lines c.args.manner.all) (counted_from c.args.told.now c.args.found.now) c.loop-advice.i
    (counted-none c.args.told.now c.args.found.now c.loop-advice.i (sym (slice_get_past c.args.found.now c.loop-advice.i
    c.in_default.ensures.lookup.3))) c.loop-advice.invariant.adds)
