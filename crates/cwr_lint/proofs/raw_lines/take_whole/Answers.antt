use Rattle.std.proofs.Common.{subst}
use Rattle.cwr_lines.specs.Steps.Held.{HeldLine, Takes}
use Rattle.cwr_causes.proofs.lemmas.LastLines.{taken_whole}
use Rattle.cwr_lint.proofs.raw_lines.take_whole.Goals as goal

pub returns : goal.returns
returns c = taken_whole c.args.bytes.now c.take.result.used c.take.new.self
    (subst (λ (l : HeldLine). Takes l c.args.bytes.now c.take.result.used c.take.new.self) c.requires.empty c.take.ensures.takes)
    c.take.ensures.held c.requires.short c.requires.no_lf
