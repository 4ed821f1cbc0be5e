use Rattle.cwr_shape.proofs.lemmas.StepPatterns.{first_goes, first_stands}
use Rattle.cwr_shape.proofs.stages.TransactionStep.first.Goals as goal

pub returns-clause-some : goal.returns-clause-some
returns-clause-some c = first_goes c.args.ty c.args.symbol c.header_step.result c.header_step.ensures

pub returns-clause-value : goal.returns-clause-value
returns-clause-value c = first_stands c.args.ty c.args.symbol c.header_step.result c.header_step.ensures
