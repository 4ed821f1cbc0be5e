use Rattle.std.proofs.Common.{inl, ap}
use Rattle.std.specs.Prelude.{Some}
use Rattle.cwr_lint.proofs.findings.begun_with.Goals as goal

pub returns-in-Ok : goal.returns-in-Ok
returns-in-Ok c = inl ((λ none. absurd (cc (c.in-Ok.ensures.misplaced.1 none))), ap Some c.in-Ok.ensures.ok)
