use Rattle.std.proofs.Common.{◌≡◌, ◌+◌, ◌++◌, ◌||◌, List, Option, length, refl, subst, ◌∙◌}
use Rattle.std.specs.Prelude.{Ok}
use Rattle.std.specs.List.{flat_map, list_any}
use Rattle.cwr_shape.specs.declared.reasons.Level.{Level}
use Rattle.cwr_devices.specs.Steps.Pens.{Adds}
use Rattle.cwr_devices.proofs.lemmas.Adding.{adds_both}
use Rattle.cwr_findings.specs.Format.Findings.{findings}
use Rattle.cwr_tools.specs.Format.Reports.{transaction_lines}
use Rattle.cwr_tools.specs.Format.Watching.{is_reached}
use Rattle.cwr_tools.proofs.lemmas.ReportSteps.{memory_refused, some_there}
use Rattle.cwr_advice.specs.declared.characters.Characters.TheVariants.{Unsaid, Utf8, Other}
use Rattle.cwr_advice.specs.declared.rules.Advice.{Advice}
use Rattle.cwr_advice.specs.Format.Rules.{advice_of}
use Rattle.cwr_advice.specs.Format.Said.{before_all_days}
use Rattle.cwr_advise.specs.Format.AdviceLevels.{advice_reaches}
use Rattle.cwr_advise.specs.Format.AdviceLines.{has_advice}
use Rattle.cwr_advise.specs.Format.AdviceTexts.{noted_advice}
use Rattle.cwr_advise.specs.Steps.AdviceCounts.{told_by}
use Rattle.cwr_advise.specs.Steps.AdvisedItems.{advised_after}
use Rattle.cwr_advise.proofs.lemmas.AdvicePut.{found_first, found_second}
use Rattle.cwr_advise.proofs.lemmas.LevelsTold.{seen_both}
use Rattle.cwr_advise.proofs.lemmas.SaidBefore.{said_some}
use Rattle.cwr_advise.proofs.item_advice.advised_in.Goals as goal

pub returns-in_err-found-clause-adds : goal.returns-in_err-found-clause-adds
returns-in_err-found-clause-adds g c =
    let t = c.args.transaction.now in
    memory_refused g.W.Target.contents g.W.Target.failures (has_advice t)
    (advised_after c.args.manner c.args.told.now c.args.said c.args.group c.args.sequence c.args.first t)
    c.from_residual.result _ c.args.pen.now c.args.pen.now c.from_residual.ensures.1 (
      found_second (length (findings t)) (length (advice_of (before_all_days Unsaid) t) + length
          (advice_of (before_all_days Utf8) t) + length (advice_of (before_all_days Other) t))
          (said_some c.args.said t (some_there (advice_of c.args.said t) c.in_err-found.ensures.err)),
      refl,
    )

pub returns-in_err-counted_findings-clause-adds : goal.returns-in_err-counted_findings-clause-adds
returns-in_err-counted_findings-clause-adds g c =
    let t = c.args.transaction.now in
    let refused = c.in_err-counted_findings.ensures.adds in
    memory_refused g.W.Target.contents g.W.Target.failures (has_advice t)
    (advised_after c.args.manner c.args.told.now c.args.said c.args.group c.args.sequence c.args.first t)
    c.from_residual-in_err-counted_findings.result _ c.args.pen.now c.counted_findings.new.pen
    c.from_residual-in_err-counted_findings.ensures.1 (
      found_first (length (findings t)) (length (advice_of (before_all_days Unsaid) t) + length
          (advice_of (before_all_days Utf8) t) + length (advice_of (before_all_days Other) t)) refused.0,
      refused.1,
    )

pub returns-clause-adds : goal.returns-clause-adds
returns-clause-adds g c =
    let t = c.args.transaction.now in
    subst (λ (found : List Advice). Adds g.W.Target.contents g.W.Target.failures (transaction_lines
    c.args.manner.explained c.args.manner.apart c.args.group c.args.sequence c.args.first t ++ flat_map
    (noted_advice c.args.manner.apart c.args.group c.args.sequence c.args.first t) (told_by c.args.manner.all c.args.told.now
    found)) c.args.pen.now c.told_lines.new.pen)
    (c.as_slice-2.ensures.value ∙ c.in_ok-found.ensures.ok)
    (adds_both c.in_ok-counted_findings.ensures.adds c.told_lines.ensures.adds)

pub returns-clause-seen : goal.returns-clause-seen
returns-clause-seen g c =
    let t = c.args.transaction.now in
    seen_both {E = Unit {0}} c.args.worst.now.level c.counted_findings.new.worst.level c.see_advice.new.self.level c.args.said t
    (Ok tt) c.in_ok-counted_findings.ensures.seen
    (subst (λ (found : List Advice). (asked : Option Level) → is_reached asked c.see_advice.new.self.level
    ≡ (is_reached asked c.counted_findings.new.worst.level || list_any (advice_reaches asked) found))
    (c.as_slice.ensures.value ∙ c.in_ok-found.ensures.ok) c.see_advice.ensures)
