use Rattle.cwr_shape.proofs.lemmas.StageStands.{next_exact, next_stands}
use Rattle.cwr_shape.proofs.stages.Stage.next.Goals as goal

pub returns-clause-some : goal.returns-clause-some
returns-clause-some c = λ xs st. next_exact xs c.args.self c.args.symbol c.next.result c.next.ensures st

pub returns-clause-value : goal.returns-clause-value
returns-clause-value c = λ xs st. next_stands xs c.args.self c.args.symbol c.next.result c.next.ensures st
