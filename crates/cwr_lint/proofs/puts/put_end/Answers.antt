use Rattle.std.proofs.Common.{◌≡◌, ℕ, List, [], ◌++◌, refl, rules, sym, append-nil}
use Rattle.cwr_devices.proofs.lemmas.Adding.{puts_added}
use Rattle.cwr_advise.specs.Steps.AdviceCounts.{summary_by}
use Rattle.cwr_lint.specs.Steps.CutShort.{IsFrontOf}
use Rattle.cwr_lint.specs.Steps.Runs.{sums_text}
use Rattle.cwr_lint.proofs.lemmas.CutShort.{told_leaves}
use Rattle.cwr_lint.proofs.lemmas.TextsPut.{if_ok, text_puts}
use Rattle.cwr_lint.proofs.puts.put_end.Goals as goal

pub returns-clause-puts : goal.returns-clause-puts
returns-clause-puts g c =
    let text : List ℕ = summary_by c.args.all c.args.advice.now ++ sums_text c.args.is_over c.args.faults c.args.findings c.args.lines in (
      text,
      text_puts g.W.Target.contents g.W.Target.failures text c.end.result c.as_told.result _ _ c.as_told.ensures
          (puts_added (search rules) (search rules) c.end_lines.ensures (search rules)),
      if_ok c.as_told.result (text ≡ text) refl,
    )

pub returns-clause-leaves : goal.returns-clause-leaves
returns-clause-leaves g c =
    let text : List ℕ = summary_by c.args.all c.args.advice.now ++ sums_text c.args.is_over c.args.faults c.args.findings c.args.lines in
    told_leaves (IsFrontOf text) g.W.Target.contents g.W.Target.failures text c.end.result c.as_told.result _ _ c.as_told.ensures
    ([], sym (append-nil text)) (puts_added (search rules) (search rules) c.end_lines.ensures (search rules))
