use Rattle.std.proofs.Common.{◌≡◌, List, ℕ, rules}
use Rattle.cwr_devices.proofs.lemmas.Adding.{puts_added}
use Rattle.cwr_lint.specs.Format.FaultsOfLines.{ended_lines}
use Rattle.cwr_lint.specs.Steps.CutShort.{IsNoneOr}
use Rattle.cwr_lint.specs.Steps.Runs.{asking_of}
use Rattle.cwr_lint.specs.Steps.Walks.{ended_by, told_ended}
use Rattle.cwr_lint.proofs.lemmas.CutShort.{such_leaves}
use Rattle.cwr_lint.proofs.lemmas.TextsPut.{lines_such, such_puts}
use Rattle.cwr_lint.proofs.findings.put_ended.Goals as goal

pub returns-clause-puts : goal.returns-clause-puts
returns-clause-puts g c =
    let asked = asking_of c.args.asked.now in
    let ended = ended_by c.args.judged.now c.args.state.now c.args.begun.now in
    let whole : List ℕ = ended_lines asked (told_ended asked c.args.advice.now ended) ended in
    let lines = lines_such g.W.Target.contents g.W.Target.failures whole c.ended_lines-lines.result _ _ c.ended_lines-lines.ensures.adds in
    such_puts (λ (text : List ℕ). text ≡ whole) g.W.Target.contents g.W.Target.failures lines.0 c.end.result c.ended_lines-lines.result
    c.told_so.result _ _ c.told_so.ensures lines.2 (puts_added (search rules) (search rules) lines.1 (search rules))

pub returns-clause-leaves : goal.returns-clause-leaves
returns-clause-leaves g c =
    let asked = asking_of c.args.asked.now in
    let ended = ended_by c.args.judged.now c.args.state.now c.args.begun.now in
    let whole : List ℕ = ended_lines asked (told_ended asked c.args.advice.now ended) ended in
    let lines = lines_such g.W.Target.contents g.W.Target.failures whole c.ended_lines-lines.result _ _ c.ended_lines-lines.ensures.adds in
    such_leaves (IsNoneOr whole) g.W.Target.contents g.W.Target.failures lines.0 c.end.result c.ended_lines-lines.result
    c.told_so.result _ _ c.told_so.ensures lines.3 (puts_added (search rules) (search rules) lines.1 (search rules))
