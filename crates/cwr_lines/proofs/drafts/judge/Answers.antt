use Rattle.std.proofs.Common.{◌+◌, arith, below_more, refl}
use Rattle.std.proofs.lemmas.Bool.{false≢true}
use Rattle.cwr_lines.specs.Format.Carried.{FitsAt}
use Rattle.cwr_lines.specs.Steps.Carried.{record_in}
use Rattle.cwr_lines.proofs.lemmas.FitCells.{all_fit, fits_before, record_has_no_fault}
use Rattle.cwr_lines.proofs.drafts.judge.Goals as goal

pub loop-before-init : goal.loop-before-init
loop-before-init c = fits_before (record_in c.args.kind c.args.line.now)

pub loop-before-preserved : goal.loop-before-preserved
loop-before-preserved c =
    below_more (FitsAt (record_in c.args.kind c.args.line.now)) (c.loop-before.before + 1) c.loop-before.invariant
    c.in_default.ensures.ok

pub returns-clause-variant : goal.returns-clause-variant
returns-clause-variant c = (
  λ _. all_fit c.args.kind c.args.line.now c.requires.whole
      (λ i h. c.loop-before.invariant i (omega (arith, c.fields-before-end.ensures))),
  λ _. refl,
)

pub returns-in-Err-clause-variant : goal.returns-in-Err-clause-variant
returns-in-Err-clause-variant c = (
  λ e. absurd (false≢true e),
  λ h. absurd (record_has_no_fault (record_in c.args.kind c.args.line.now)
      (c.loop-before.before + 1) c.in-Err.fault h c.in-Err.ensures.err),
)
