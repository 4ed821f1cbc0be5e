use Rattle.cwr_devices.specs.Steps.Pens.{Adds}
use Rattle.cwr_tables.proofs.lemmas.CellsOfRows.{cells_before}
use Rattle.cwr_tables.proofs.rows.shown_cells.Given as goal

abbrev pub invariant-loop-before : goal.invariant-loop-before
invariant-loop-before g l =
    Adds g.W.Target.contents g.W.Target.failures (cells_before l.encoding l.shown l.before) l.initial.pen l.pen
