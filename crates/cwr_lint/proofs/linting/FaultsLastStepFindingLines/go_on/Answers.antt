use Rattle.std.proofs.Common.{None, refl}
use Rattle.cwr_lint.proofs.linting.FaultsLastStepFindingLines.go_on.Goals as goal

pub returns-clause-says : goal.returns-clause-says
returns-clause-says g c = let follows = c.go_on_after.ensures.says in (
  follows.0,
  follows.1,
  (
    None,
    c.told-told.result.findings,
    c.nothing.result,
    (λ of given here. (refl, (c.told-told.ensures.told of given here).counted, c.nothing.ensures)),
    follows.2,
  ),
)
