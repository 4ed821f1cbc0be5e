use Rattle.std.proofs.Common.{refl}
use Rattle.cwr_shape.proofs.lemmas.TallyWithOneMore.{keeps_new, stands_new}
use Rattle.cwr_shape.proofs.tallies.Tally.new.Goals as goal

pub invariant_of-result : goal.invariant_of-result
invariant_of-result c = keeps_new c.args.limits c.start.result _ c.records.ensures.in_range c.start.ensures refl

pub returns-clause-stands : goal.returns-clause-stands
returns-clause-stands c = stands_new c.args.limits c.start.result _ c.records.ensures.in_range c.start.ensures refl
