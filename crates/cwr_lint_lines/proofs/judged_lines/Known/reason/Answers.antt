use Rattle.std.proofs.Common.{arith}
use Rattle.cwr_lint_lines.proofs.lemmas.JudgedLines.{told_cell}
use Rattle.cwr_lint_lines.proofs.judged_lines.Known.reason.Goals as goal

pub returns : goal.returns
returns c =
    λ n scope. told_cell n scope c.args.line.now c.args.self.now c.args.j c.cell_reason.result c.requires c.if-j-eq1.false
    (omega (arith, c.if-j-fields.false, c.fields.ensures)) c.cell_reason.ensures
