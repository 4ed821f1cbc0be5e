use Rattle.std.proofs.Common.{subst, sym}
use Rattle.cwr_decode.specs.Steps.Machines.{HoldsOpen}
use Rattle.cwr_decode.proofs.machine.Machine.enter_line.Goals as goal

pub enter_cut-found-requires : goal.enter_cut-found-requires
enter_cut-found-requires c = subst HoldsOpen (sym c.self.view_is) c.requires.holds
