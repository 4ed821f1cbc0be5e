use Rattle.std.proofs.Common.{arith}
use Rattle.cwr_devices.proofs.lemmas.Adding.{adds_nothing}
use Rattle.cwr_summary.specs.Format.Summaries.{all_rights}
use Rattle.cwr_summary_rows.specs.Format.Rows.{right_part}
use Rattle.cwr_summary_rows.specs.Format.Shown.{numbers_of}
use Rattle.cwr_summary_rows.proofs.lemmas.Parts.{adds_element, adds_elements}
use Rattle.cwr_summary_rows.proofs.rows.right_parts.Goals as goal

pub loop-i-init : goal.loop-i-init
loop-i-init g c = adds_nothing

pub loop-i-preserved : goal.loop-i-preserved
loop-i-preserved g c =
    adds_element (right_part c.args.form (numbers_of c.args.summary.now)) all_rights c.loop-i.i _ c.loop-i-test.true c.loop-i.invariant
    c.right_part.ensures

pub returns : goal.returns
returns g c =
    adds_elements (right_part c.args.form (numbers_of c.args.summary.now)) all_rights c.loop-i.i (omega (arith, c.loop-i-test.false))
    c.loop-i.invariant
