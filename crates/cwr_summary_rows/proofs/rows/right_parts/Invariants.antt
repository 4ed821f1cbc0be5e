use Rattle.std.proofs.Common.{take}
use Rattle.std.specs.List.{flat_map}
use Rattle.cwr_devices.specs.Steps.Pens.{Adds}
use Rattle.cwr_summary.specs.Format.Summaries.{all_rights}
use Rattle.cwr_summary_rows.specs.Format.Rows.{right_part}
use Rattle.cwr_summary_rows.specs.Format.Shown.{numbers_of}
use Rattle.cwr_summary_rows.proofs.rows.right_parts.Given as goal

abbrev pub invariant-loop-i : goal.invariant-loop-i
invariant-loop-i g l = Adds g.W.Target.contents g.W.Target.failures
    (flat_map (right_part l.form (numbers_of l.summary)) (take l.i all_rights)) l.initial.pen l.pen
