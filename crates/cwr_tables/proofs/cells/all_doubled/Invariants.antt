use Rattle.std.proofs.Common.{take}
use Rattle.std.specs.List.{flat_map}
use Rattle.cwr_devices.specs.Steps.Pens.{Adds}
use Rattle.cwr_tables.specs.Format.Tables.{doubled}
use Rattle.cwr_tables.proofs.cells.all_doubled.Given as goal

abbrev pub invariant-loop-b : goal.invariant-loop-b
invariant-loop-b g l =
    Adds g.W.Target.contents g.W.Target.failures (flat_map doubled (take l.b-index l.cell)) l.initial.pen l.pen
