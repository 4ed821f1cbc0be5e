use Rattle.std.proofs.Common.{◌+◌, ◌-◌, length}
use Rattle.cwr_decode.specs.Steps.Passing.{IsPassing}
use Rattle.cwr_decode.proofs.machine.Machine.pass.Given as goal

abbrev pub invariant-lines : goal.invariant-lines
invariant-lines g l =
    IsPassing g.K.Keeper.stands_for g.K.Keeper.are_clean l.fn.self l.self l.piece l.passed l.fed l.records l.tally l.keeper

abbrev pub decreases-lines : goal.decreases-lines
decreases-lines g l = length l.piece - (l.passed.used + l.fed)
