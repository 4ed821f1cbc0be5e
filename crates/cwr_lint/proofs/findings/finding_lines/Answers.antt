use Rattle.std.proofs.Common.{◌≡◌, ℕ, ◌+◌, ◌-◌, true, Bool, List, min, ap, ap₂, subst, ◌∙◌}
use Rattle.std.specs.Prelude.{◌^◌, nat_le, length, OnOk}
use Rattle.cwr_advise.specs.Steps.AdviceCounts.{counts_after, told_by}
use Rattle.cwr_lint.specs.Format.FaultsOfLines.{advice_if, said_if, told_lines}
use Rattle.cwr_tools.specs.Steps.Reports.{AddsLines}
use Rattle.cwr_lint.specs.Steps.Runs.{asking_of}
use Rattle.cwr_lint_lines.specs.Format.FaultsAtFields.{report_number}
use Rattle.cwr_lint_lines.specs.declared.states.OpenTransaction.{OpenTransaction}
use Rattle.cwr_lint.proofs.findings.finding_lines.Goals as goal

pub returns-clause-adds : goal.returns-clause-adds
returns-clause-adds g c =
    let count : c.len-count.result ≡ length c.args.transaction.now = c.len-count.ensures.len in
    let first : c.saturating_add-first.result ≡ min ((c.args.state.now.lines - length c.args.transaction.now) + 1) (2 ^ 64 - 1)
    = c.saturating_add-first.ensures ∙ ap (λ (n : ℕ). min (n + 1) (2 ^ 64 - 1))
    (c.saturating_sub.ensures ∙ ap (λ (n : ℕ). c.args.state.now.lines - n) count) in
    let numbered = c.is_numbered.ensures ∙ ap₂ (λ (a b : ℕ). nat_le (a + b) 100000000) first count in
    let sequence =
    c.report_number-2.ensures ∙ ap (λ (t : OpenTransaction). report_number t.number) c.open_transaction-number.ensures in
    subst (λ (wanted : List ℕ). AddsLines g.W.Target.contents g.W.Target.failures true wanted c.told_lines.result c.args.pen.now
    c.told_lines.new.pen)
    (λ i. told_lines (asking_of c.args.asked.now) (numbered i) (told_by c.args.asked.now.all c.args.advice.now
    (advice_if (said_if (numbered i) c.args.asked.now.said) c.args.transaction.now)) (c.report_number.ensures i) (sequence i) (first i)
    c.args.transaction.now) c.told_lines.ensures.adds

pub returns-clause-advised : goal.returns-clause-advised
returns-clause-advised g c =
    let count : c.len-count.result ≡ length c.args.transaction.now = c.len-count.ensures.len in
    let first : c.saturating_add-first.result ≡ min ((c.args.state.now.lines - length c.args.transaction.now) + 1) (2 ^ 64 - 1)
    = c.saturating_add-first.ensures ∙ ap (λ (n : ℕ). min (n + 1) (2 ^ 64 - 1))
    (c.saturating_sub.ensures ∙ ap (λ (n : ℕ). c.args.state.now.lines - n) count) in
    let numbered = c.is_numbered.ensures ∙ ap₂ (λ (a b : ℕ). nat_le (a + b) 100000000) first count in
    subst (λ (b : Bool). OnOk c.told_lines.result (c.told_lines.new.advice ≡ counts_after c.args.advice.now
    (advice_if (said_if b c.args.asked.now.said) c.args.transaction.now))) numbered c.told_lines.ensures.advised
