use Rattle.std.proofs.Common.{Some, true, ap}
use Rattle.cwr_advise.specs.Format.AdviceLines.{lines_advised}
use Rattle.cwr_lint.proofs.linting.FaultsLastStepAdviceLines.go_on.Goals as goal

pub returns-clause-says : goal.returns-clause-says
returns-clause-says g c = let follows = c.go_on_after.ensures.says in (
  follows.0,
  follows.1,
  (
    Some c.said.result,
    c.findings.result,
    c.counts.result,
    (λ manner given here. (
      ap Some (c.said.ensures.said (lines_advised manner true 0) given here),
      c.findings.ensures.findings (lines_advised manner true 0) given here,
      c.counts.ensures.counts manner given here,
    )),
    follows.2,
  ),
)
