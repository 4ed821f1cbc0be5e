use Rattle.std.proofs.Common.{ap, arith}
use Rattle.cwr_decode.specs.Steps.Machines.{Standing}
use Rattle.cwr_decode.proofs.lemmas.HeldBounds.{held_bounded}
use Rattle.cwr_decode.proofs.decoders.Decoder.holds.Goals as goal

pub returns-clause-bounded : goal.returns-clause-bounded
returns-clause-bounded c =
    let bounded = held_bounded c.self.inside.machine c.self.invariant in
    let limits = ap (λ (d : Standing). d.tally.limits.transaction) c.self.view_is in
    (omega (arith, c.holds.ensures.line, bounded.line), omega (arith, c.holds.ensures.transaction, bounded.transaction, limits))
