use Rattle.std.proofs.Common.{ℕ, ◌+◌, List, sym, ap, ◌∙◌}
use Rattle.cwr_devices.proofs.lemmas.Adding.{adds_as, adds_nothing}
use Rattle.cwr_advise.specs.Format.AdviceTexts.{lines_at_record}
use Rattle.cwr_advise.proofs.lemmas.AdvicePut.{noted_none, noted_some}
use Rattle.cwr_advise.proofs.item_advice.noted_advice.Goals as goal

pub returns : goal.returns
returns g c =
    adds_as
    (ap (λ (work : List ℕ). lines_at_record c.args.apart c.args.group c.args.sequence (c.args.first + c.args.advice.now.rec) work
    c.args.advice.now c.in-Some.shown) c.requires.work
    ∙ noted_some c.args.apart c.args.group c.args.sequence c.args.first c.args.transaction.now c.args.advice.now c.in-Some.shown
    c.in-Some.ensures.value) c.lines_at_record.ensures

pub returns-in_default : goal.returns-in_default
returns-in_default g c =
    adds_as (sym (noted_none c.args.apart c.args.group c.args.sequence c.args.first c.args.transaction.now c.args.advice.now
    c.in_default.ensures.value)) adds_nothing
