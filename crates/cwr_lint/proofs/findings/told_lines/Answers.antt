use Rattle.std.proofs.Common.{Bool, sym, ap, ◌∙◌}
use Rattle.std.specs.Prelude.{◌&&◌}
use Rattle.cwr_tools.specs.Format.Reports.{has_findings, transaction_lines}
use Rattle.cwr_values.specs.declared.items.Item.TheVariants.{Transaction}
use Rattle.cwr_advise.specs.Format.AdviceLines.{has_advice}
use Rattle.cwr_advise.specs.Steps.AdvisedItems.{advised_after}
use Rattle.cwr_lint.specs.Steps.Runs.{asking_of}
use Rattle.cwr_lint.proofs.lemmas.AdviceTold.{some_numbered, told_with, told_without}
use Rattle.cwr_lint.proofs.lemmas.TextsPut.{lines_as}
use Rattle.cwr_lint.proofs.findings.told_lines.Goals as goal

pub advised-requires : goal.advised-requires
advised-requires g c =
    record {
      few = c.requires.few (some_numbered c.args.numbered c.args.asked.now.said c.in-Some.said (sym c.said_if.ensures ∙ c.in-Some.is));
    }

pub returns-in-Some-clause-adds : goal.returns-in-Some-clause-adds
returns-in-Some-clause-adds g c =
    let explained = c.is_worded-explained.ensures ∙ ap (λ (b : Bool). b && c.args.numbered) c.is_some-apart.ensures in
    lines_as g.W.Target.contents g.W.Target.failures (has_advice c.args.transaction.now) (advised_after
    (record { explained = c.is_worded-explained.result; apart = c.is_some-apart.result; all = c.args.asked.now.all })
    c.args.advice.now c.in-Some.said c.args.group c.args.sequence c.args.first c.args.transaction.now) _ c.advised.result c.args.pen.now
    c.advised.new.pen
    (told_with (asking_of c.args.asked.now) c.is_worded-explained.result c.is_some-apart.result c.args.numbered c.args.advice.now
    c.in-Some.said c.args.group c.args.sequence c.args.first c.args.transaction.now explained c.is_some-apart.ensures (sym c.said_if.ensures ∙ c.in-Some.is))
    c.advised.ensures.adds

pub returns-in-None-clause-adds : goal.returns-in-None-clause-adds
returns-in-None-clause-adds g c =
    let explained = c.is_worded-explained.ensures ∙ ap (λ (b : Bool). b && c.args.numbered) c.is_some-apart.ensures in
    lines_as g.W.Target.contents g.W.Target.failures (has_findings (Transaction c.args.transaction.now))
    (transaction_lines c.is_worded-explained.result c.is_some-apart.result c.args.group c.args.sequence c.args.first c.args.transaction.now) _
    c.transaction_findings.result c.args.pen.now c.transaction_findings.new.pen
    (told_without (asking_of c.args.asked.now) c.is_worded-explained.result c.is_some-apart.result c.args.numbered
    c.args.advice.now c.args.group c.args.sequence c.args.first c.args.transaction.now explained c.is_some-apart.ensures (sym c.said_if.ensures ∙ c.in-None.is))
    c.transaction_findings.ensures.adds
