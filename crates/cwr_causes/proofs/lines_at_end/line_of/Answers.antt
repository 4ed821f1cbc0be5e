use Rattle.std.proofs.Common.{subst}
use Rattle.cwr_lines.specs.Steps.Held.{HeldLine, Takes}
use Rattle.cwr_causes.proofs.lemmas.LastLines.{taken_whole}
use Rattle.cwr_causes.proofs.lines_at_end.line_of.Goals as goal

pub returns-clause-whole : goal.returns-clause-whole
returns-clause-whole c = λ short none. taken_whole c.args.bytes.now c.take-taken.result.used c.take-taken.new.self
    (subst (λ (l : HeldLine). Takes l c.args.bytes.now c.take-taken.result.used c.take-taken.new.self) c.new-line.ensures
    c.take-taken.ensures.takes) c.take-taken.ensures.held short none
