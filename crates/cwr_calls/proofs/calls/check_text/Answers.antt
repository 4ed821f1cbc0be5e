use Rattle.std.proofs.Common.{None, Some, true, inl, inr, rules, subst}
use Rattle.std.specs.Prelude.{Result, IfErr}
use Rattle.cwr_tools.specs.declared.verdicts.Verdict.{Verdict}
use Rattle.cwr_tools.specs.declared.verdicts.ToolFault.{ToolFault}
use Rattle.cwr_calls.specs.Steps.Checked.{MayLackMemory}
use Rattle.cwr_shape.specs.declared.limits.Limits.{Limits}
use Rattle.cwr_tools.specs.Format.Reports.{lines_of_findings}
use Rattle.cwr_tools.specs.Format.Verdicts.{IsVerdictOn}
use Rattle.cwr_tools.proofs.lemmas.RightReports.{judged_text}
use Rattle.cwr_calls.specs.Steps.Reported.{IsJudged}
use Rattle.cwr_calls.proofs.lemmas.ReportedTexts.{judged_on, lacks}
use Rattle.cwr_calls.proofs.calls.check_text.Goals as goal

pub returns-in-Ok-checked-clause-told : goal.returns-in-Ok-checked-clause-told
returns-in-Ok-checked-clause-told c =
    let judged : IsJudged c.in-Ok.limits c.args.text.now c.check-checked.result.1 =
    judged_on c.in-Ok.limits (Some c.new-reader.result.left.now) c.args.text.now
    c.check-checked.result.1 (search rules)
    (judged_text lines_of_findings c.in-Ok.limits
    (Some c.new-reader.result.left.now) _
    (λ w. None) (record { handed_on = true }) c.check-checked.result.0 c.check-checked.result.1 c.check-checked.ensures.runs.told) in
    let found : IsVerdictOn c.in-Ok.limits c.args.text.now c.in-Ok-checked.found =
    subst (IsJudged c.in-Ok.limits c.args.text.now) c.in-Ok-checked.is judged in
    inr (inr (
      c.in-Ok-checked.found,
      c.in_c.ensures,
      subst (λ (l : Limits). IsVerdictOn l c.args.text.now c.in-Ok-checked.found) c.in-Ok.ensures.0 found,
    ))

pub returns-in-Err-clause-told : goal.returns-in-Err-clause-told
returns-in-Err-clause-told c =
    let it =
    subst (λ (r : Result Verdict ToolFault). IfErr r (λ fault. MayLackMemory lines_of_findings c.in-Ok.limits c.args.text.now)) c.in-Err.is
    (lacks lines_of_findings c.in-Ok.limits
    (Some c.new-reader.result.left.now) _ c.args.text.now
    (λ w. None) (record { handed_on = true }) c.check-checked.result.0 c.check-checked.result.1 (search rules) c.check-checked.ensures.runs.reported
    c.check-checked.ensures.runs.reader_failures c.check-checked.ensures.runs.writer_failures) in
    inr (inl (c.ended-in-Err.ensures, subst (λ (l : Limits). MayLackMemory lines_of_findings l c.args.text.now) c.in-Ok.ensures.0 it))
