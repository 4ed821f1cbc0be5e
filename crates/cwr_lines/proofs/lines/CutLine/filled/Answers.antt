use Rattle.cwr_lines.specs.Steps.Held.{HeldLine, line_kept}
use Rattle.cwr_lines.proofs.lemmas.CellParts.{filled_of}
use Rattle.cwr_lines.proofs.lemmas.RenumberedLines.{text_short}
use Rattle.cwr_lines.proofs.lines.CutLine.filled.Goals as goal

pub returns-clause-short : goal.returns-clause-short
returns-clause-short c =
    let l = c.self.inside in
    let k = c.self.invariant.0 in
    let h : HeldLine = line_kept l.text.now l.count l.has_return l.ended in
    text_short l.text.now l.kind h k.0.held (filled_of l.text.now l.count l.has_return l.kind l.ended k.0 k.1).parts
