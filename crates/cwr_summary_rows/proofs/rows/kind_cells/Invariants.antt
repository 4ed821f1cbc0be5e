use Rattle.std.proofs.Common.{take}
use Rattle.std.specs.List.{flat_map}
use Rattle.cwr_devices.specs.Steps.Pens.{Adds}
use Rattle.cwr_summary_rows.specs.Format.Rows.{kind_cell}
use Rattle.cwr_summary_rows.specs.Format.Shown.{numbers_of}
use Rattle.cwr_summary_rows.proofs.rows.kind_cells.Given as goal

abbrev pub invariant-loop-i : goal.invariant-loop-i
invariant-loop-i g l = Adds g.W.Target.contents g.W.Target.failures
    (flat_map (kind_cell l.form (numbers_of l.summary)) (take l.i l.kinds)) l.initial.pen l.pen
