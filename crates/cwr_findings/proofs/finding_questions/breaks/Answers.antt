use Rattle.std.proofs.Common.{sym, ap, ◌∙◌}
use Rattle.cwr_findings.specs.declared.rules.Rule.{Rule}
use Rattle.cwr_findings.specs.Format.Findings.{breaks}
use Rattle.cwr_findings.proofs.finding_questions.breaks.Goals as goal

pub returns-in-V1 : goal.returns-in-V1
returns-in-V1 c =
    c.has_wrong_iswc.ensures c.args.transaction.now c.args.sequence
    ∙ sym (ap (λ (rule : Rule). breaks rule c.args.transaction.now c.args.sequence c.args.shown.now) c.in-V1.is)

pub returns-then-is_work-3 : goal.returns-then-is_work-3
returns-then-is_work-3 c =
    c.names_no_publisher.ensures c.args.sequence (sym c.is_work-in-V7.ensures ∙ c.if-is_work-3.true)
    ∙ sym (ap (λ (rule : Rule). breaks rule c.args.transaction.now c.args.sequence c.args.shown.now) c.in-V7.is)
