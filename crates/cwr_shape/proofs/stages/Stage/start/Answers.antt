use Rattle.cwr_shape.proofs.lemmas.StageStands.{stands_start}
use Rattle.cwr_shape.proofs.stages.Stage.start.Goals as goal

pub returns : goal.returns
returns c = stands_start
