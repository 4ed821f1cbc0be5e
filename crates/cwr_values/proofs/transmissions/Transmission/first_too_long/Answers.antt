use Rattle.std.proofs.Common.{None, Some, sym, ◌∙◌}
use Rattle.cwr_values.specs.Format.Fits.{first_too_long}
use Rattle.cwr_values.proofs.lemmas.FitsIsWithin.{turn}
use Rattle.cwr_values.proofs.transmissions.Transmission.first_too_long.Goals as goal

pub returns-in-Some : goal.returns-in-Some
returns-in-Some c =
    turn c.args.limit c.loop-group.group c.deref-kept-items.result.now c.kept-item.result (Some c.in-Some.transaction)
    (first_too_long c.args.limit c.args.self.now)
    c.loop-group-test.true c.kept-item.is (sym c.in-Some.is ∙ c.first_longer.ensures) c.loop-group.invariant

pub loop-group-preserved : goal.loop-group-preserved
loop-group-preserved c =
    turn c.args.limit c.loop-group.group c.deref-kept-items.result.now c.kept-item.result None
    (first_too_long c.args.limit c.args.self.now)
    c.loop-group-test.true c.kept-item.is (sym c.in_default.is ∙ c.first_longer.ensures) c.loop-group.invariant
