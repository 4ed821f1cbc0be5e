use Rattle.std.proofs.Common.{[], ◌∷◌, ◌++◌, take}
use Rattle.std.specs.List.{flat_map}
use Rattle.cwr_devices.specs.Steps.Pens.{Adds}
use Rattle.cwr_summary_rows.specs.Format.Rows.{sum_cell}
use Rattle.cwr_summary_rows.specs.Format.Shown.{numbers_of}
use Rattle.cwr_summary_rows.proofs.rows.code_cells.Given as goal

abbrev pub invariant-loop-member : goal.invariant-loop-member
invariant-loop-member g l = Adds g.W.Target.contents g.W.Target.failures
    (flat_map (λ p. sum_cell l.form (numbers_of l.summary) (l.front ++ p.1.now) (g.C.Columned.column p.0 ∷ []))
    (take l.member-index l.member-items)) l.initial.pen l.pen
