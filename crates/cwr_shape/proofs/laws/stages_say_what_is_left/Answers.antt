use Rattle.cwr_shape.proofs.lemmas.StageStands.{stands_leaves}
use Rattle.cwr_shape.proofs.laws.stages_say_what_is_left.Goals as goal

pub returns : goal.returns
returns c = stands_leaves
