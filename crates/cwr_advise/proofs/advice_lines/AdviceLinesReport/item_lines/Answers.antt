use Rattle.std.proofs.Common.{◌≡◌, ℕ, List, ◌++◌, ◌∷◌, [], Option, ap, refl, rules, subst, sym, ◌∙◌}
use Rattle.std.proofs.lemmas.Bool.{or_left, or_right}
use Rattle.cwr_shape.specs.declared.reasons.Level.{Level}
use Rattle.cwr_devices.specs.Steps.Pens.{Adds}
use Rattle.cwr_tools.specs.Format.Watching.{is_reached}
use Rattle.cwr_tools.proofs.lemmas.ReportSteps.{memory_refused, next_added, next_lines}
use Rattle.cwr_advise.specs.Format.AdviceLevels.{any_reaches}
use Rattle.cwr_advise.specs.Format.AdviceLines.{advice_on, advised_item, advised_lines, has_advised, lines_advised}
use Rattle.cwr_advise.specs.Format.AdviceLines.{own_advice, takes_memory}
use Rattle.cwr_advise.specs.Format.RepeatedWorks.{keeps_number}
use Rattle.cwr_advise.specs.Steps.AdviceCounts.{counts_after, counts_of}
use Rattle.cwr_advise.specs.Steps.AdvisedItems.{advised_at}
use Rattle.cwr_advise.specs.Steps.KeptWorks.{counts_with_repeated, repeated_at, shown_repeated}
use Rattle.cwr_advise.proofs.lemmas.Begun.{told_more}
use Rattle.cwr_advise.proofs.lemmas.LevelsTold.{worst_told}
use Rattle.cwr_advise.proofs.lemmas.LinesOfAdvice.{advised_more, advised_next, counts_next}
use Rattle.cwr_advise.proofs.advice_lines.AdviceLinesReport.item_lines.Goals as goal

pub returns-in_err-repeated-clause-adds : goal.returns-in_err-repeated-clause-adds
returns-in_err-repeated-clause-adds g c = λ of given counted here.
    let self = c.args.self.now in
    let item = c.args.item.now in
    let text = advised_item self.manner self.repeats.limit given item in
    next_lines g.W.Target.contents g.W.Target.failures of (lines_advised self.manner self.up_to_fault self.repeats.limit) given
    item text c.from_residual.result c.args.pen.now c.args.pen.now here.0 (advised_next self.manner self.repeats.limit given item)
    (memory_refused g.W.Target.contents g.W.Target.failures (takes_memory self.repeats.limit item) text c.from_residual.result _
    c.args.pen.now c.args.pen.now c.from_residual.ensures.1
    (or_right (has_advised item) (keeps_number self.repeats.limit item) c.in_err-repeated.ensures.err, refl))

pub returns-in_err-item_lines-clause-adds : goal.returns-in_err-item_lines-clause-adds
returns-in_err-item_lines-clause-adds g c = λ of given counted here.
    let self = c.args.self.now in
    let item = c.args.item.now in
    let text = advised_item self.manner self.repeats.limit given item in
    let refused = c.in_err-item_lines.ensures.adds in
    next_lines g.W.Target.contents g.W.Target.failures of (lines_advised self.manner self.up_to_fault self.repeats.limit) given
    item text c.from_residual-in_err-item_lines.result c.args.pen.now c.item_lines.new.pen here.0
    (advised_next self.manner self.repeats.limit given item)
    (memory_refused g.W.Target.contents g.W.Target.failures (takes_memory self.repeats.limit item) text
    c.from_residual-in_err-item_lines.result _ c.args.pen.now c.item_lines.new.pen c.from_residual-in_err-item_lines.ensures.1
    (or_left (has_advised item) (keeps_number self.repeats.limit item) refused.0, refused.1))

pub returns-clause-adds : goal.returns-clause-adds
returns-clause-adds g c = λ of given counted here.
    let self = c.args.self.now in
    let item = c.args.item.now in
    next_added of (lines_advised self.manner self.up_to_fault self.repeats.limit) given item here.0
    (subst (λ (counts : List ℕ). advised_lines self.manner self.repeats.limit (given ++ item ∷ [])
    ≡ advised_lines self.manner self.repeats.limit given
    ++ (advised_at self.manner counts c.said.result c.args.counts.now item
    ++ repeated_at self.repeats.limit c.args.counts.now item (shown_repeated self.manner.all
    (counts_after counts (own_advice c.said.result item)) c.in_ok-repeated.repeated))) (sym here.4)
    (advised_more self.manner self.repeats.limit c.args.counts.now c.said.result c.in_ok-repeated.repeated given item counted
    (c.said.ensures given here.1) (λ shown. c.in_ok-repeated.ensures.told shown given counted here.2)))
    (subst (λ (limit : ℕ). Adds g.W.Target.contents g.W.Target.failures (advised_at self.manner self.told
    c.said.result c.args.counts.now item ++ repeated_at limit c.args.counts.now item (shown_repeated self.manner.all
    (counts_after self.told (own_advice c.said.result item)) c.in_ok-repeated.repeated)) c.args.pen.now c.item_lines.new.pen)
    c.limit-limit.ensures c.in_ok-item_lines.ensures.adds)

pub returns-clause-stands : goal.returns-clause-stands
returns-clause-stands g c = λ of given counted here. (
  search rules,
  search rules,
  search rules,
  told_more c.args.self.now.findings c.item_lines.new.count given c.args.item.now here.3 c.in_ok-item_lines.ensures.counted,
  subst (λ (limit : ℕ). c.item_lines.new.told ≡ counts_of (advice_on limit (given ++ c.args.item.now ∷ [])))
      (sym c.in_ok-repeated.ensures.limit)
      (c.in_ok-item_lines.ensures.told
      ∙ ap (λ (counts : List ℕ). counts_with_repeated
      (counts_after counts (own_advice c.said.result c.args.item.now)) c.in_ok-repeated.repeated) here.4
      ∙ sym (counts_next c.args.self.now.repeats.limit c.said.result c.in_ok-repeated.repeated given c.args.item.now
      (c.said.ensures given here.1) (c.in_ok-repeated.ensures.first given here.2))),
  subst (λ (limit : ℕ). (asked : Option Level) → is_reached asked c.item_lines.new.worst.level
      ≡ any_reaches limit asked (given ++ c.args.item.now ∷ []))
      (sym c.in_ok-repeated.ensures.limit)
      (worst_told c.args.self.now.worst.level c.item_lines.new.worst.level c.args.self.now.repeats.limit given c.args.item.now
      c.said.result c.in_ok-repeated.repeated here.5 (c.said.ensures given here.1) (c.in_ok-repeated.ensures.first given here.2)
      c.in_ok-item_lines.ensures.seen),
  λ up. c.in_ok-repeated.ensures.limit ∙ here.6 up,
)
