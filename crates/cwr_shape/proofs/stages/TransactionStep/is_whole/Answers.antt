use Rattle.cwr_shape.proofs.lemmas.StepPatterns.{ends_exact}
use Rattle.cwr_shape.proofs.stages.TransactionStep.is_whole.Goals as goal

pub returns-clause-whole : goal.returns-clause-whole
returns-clause-whole c = λ ty xs st. ends_exact ty xs c.args.self c.may_end.result c.may_end.ensures st
