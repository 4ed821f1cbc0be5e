use Rattle.std.proofs.Common.{subst, sym}
use Rattle.cwr_shape.specs.Steps.Needs.{AreNeeds}
use Rattle.cwr_shape.proofs.lemmas.LeastNeeds.{are_needs}
use Rattle.cwr_shape.proofs.stages.Stage.needs.Goals as goal

pub returns-clause-least : goal.returns-clause-least
returns-clause-least c = λ xs st. subst (AreNeeds xs) (sym c.needs_at.ensures) (are_needs xs c.args.self st)
