use Rattle.std.proofs.Common.{ℕ, List, ◌++◌, ap, subst, ◌∙◌}
use Rattle.std.specs.Prelude.{Ok}
use Rattle.cwr_devices.specs.Steps.Pens.{Adds}
use Rattle.cwr_devices.proofs.lemmas.Adding.{adds_both}
use Rattle.cwr_tools.proofs.lemmas.ReportSteps.{memory_refused}
use Rattle.cwr_advise.specs.Format.AdviceLines.{has_advised, own_advice}
use Rattle.cwr_advise.specs.Steps.AdviceCounts.{counts_after}
use Rattle.cwr_advise.specs.Steps.AdvisedItems.{advised_at}
use Rattle.cwr_advise.specs.Steps.KeptWorks.{counts_with_repeated, repeated_at, shown_repeated}
use Rattle.cwr_advise.proofs.lemmas.LevelsTold.{seen_all}
use Rattle.cwr_advise.proofs.item_advice.item_lines.Goals as goal

pub returns-in_err-own_lines-clause-adds : goal.returns-in_err-own_lines-clause-adds
returns-in_err-own_lines-clause-adds g c =
    memory_refused g.W.Target.contents g.W.Target.failures (has_advised c.args.item.now)
    (advised_at c.args.manner c.args.told.now c.args.said c.args.counts.now c.args.item.now
    ++ repeated_at c.args.limit c.args.counts.now c.args.item.now (shown_repeated c.args.manner.all
    (counts_after c.args.told.now (own_advice c.args.said c.args.item.now)) c.args.repeated.now))
    c.from_residual.result _ c.args.pen.now c.own_lines.new.pen c.from_residual.ensures.1 c.in_err-own_lines.ensures.adds

pub returns-clause-adds : goal.returns-clause-adds
returns-clause-adds g c =
    adds_both c.in_ok-own_lines.ensures.adds
    (subst (λ (counts : List ℕ). Adds g.W.Target.contents g.W.Target.failures
    (repeated_at c.args.limit c.args.counts.now c.args.item.now (shown_repeated c.args.manner.all counts c.args.repeated.now))
    c.own_lines.new.pen c.repeated_lines.new.pen) c.in_ok-own_lines.ensures.told c.repeated_lines.ensures.adds)

pub returns-clause-told : goal.returns-clause-told
returns-clause-told g c =
    c.repeated_lines.ensures.told
    ∙ ap (λ (counts : List ℕ). counts_with_repeated counts c.args.repeated.now) c.in_ok-own_lines.ensures.told

pub returns-clause-seen : goal.returns-clause-seen
returns-clause-seen g c =
    seen_all {E = Unit {0}} c.args.worst.now.level c.own_lines.new.worst.level c.see_repeated.new.self.level c.args.said
    c.args.item.now c.args.repeated.now (Ok tt) c.in_ok-own_lines.ensures.seen c.see_repeated.ensures
