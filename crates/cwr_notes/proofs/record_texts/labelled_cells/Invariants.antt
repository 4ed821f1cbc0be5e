use Rattle.cwr_devices.specs.Steps.Pens.{Adds}
use Rattle.cwr_notes.specs.Steps.Labels.{labelled_cells}
use Rattle.cwr_notes.proofs.record_texts.labelled_cells.Given as goal

abbrev pub invariant-loop-before : goal.invariant-loop-before
invariant-loop-before g l =
    Adds g.W.Target.contents g.W.Target.failures (labelled_cells l.shown l.before) l.initial.pen l.pen
