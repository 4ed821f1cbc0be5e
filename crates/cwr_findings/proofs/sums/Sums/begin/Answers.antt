use Rattle.std.proofs.Common.{refl, sym, ◌∙◌}
use Rattle.cwr_findings.proofs.lemmas.SummedCopies.{begins_before, begins_over}
use Rattle.cwr_findings.proofs.sums.Sums.begin.Goals as goal

pub returns-then-is_of : goal.returns-then-is_of
returns-then-is_of c = λ yes. begins_before _ c.args.header.now (sym c.is_of.ensures ∙ c.if-is_of.true) refl

pub returns : goal.returns
returns c = λ yes. begins_over _ c.args.header.now (c.begin_registered.ensures yes)
