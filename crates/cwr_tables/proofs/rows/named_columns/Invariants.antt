use Rattle.cwr_devices.specs.Steps.Pens.{Adds}
use Rattle.cwr_tables.proofs.lemmas.CellsOfRows.{columns_before}
use Rattle.cwr_tables.proofs.rows.named_columns.Given as goal

abbrev pub invariant-loop-before : goal.invariant-loop-before
invariant-loop-before g l = Adds g.W.Target.contents g.W.Target.failures (columns_before l.kind l.before) l.initial.pen l.pen
