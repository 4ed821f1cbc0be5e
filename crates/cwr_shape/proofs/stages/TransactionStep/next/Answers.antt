use Rattle.cwr_shape.proofs.lemmas.StepPatterns.{on_exact, on_stands}
use Rattle.cwr_shape.proofs.stages.TransactionStep.next.Goals as goal

pub returns-clause-some : goal.returns-clause-some
returns-clause-some c = λ ty xs st. on_exact ty xs c.args.self c.args.symbol c.on.result c.on.ensures st

pub returns-clause-value : goal.returns-clause-value
returns-clause-value c = λ ty xs st. on_stands ty xs c.args.self c.args.symbol c.on.result c.on.ensures st
