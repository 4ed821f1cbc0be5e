use Rattle.std.proofs.Common.{◌∙◌, ◌+◌, sym, arith}
use Rattle.cwr_causes.specs.Steps.Shifts.{found_sign}
use Rattle.cwr_causes.proofs.lemmas.FirstSigns.{first_found, first_of_more, first_of_none}
use Rattle.cwr_causes.proofs.shifts.field_with_sign.Goals as goal

pub loop-before-init : goal.loop-before-init
loop-before-init c = first_of_none c.args.kind c.args.bytes.now

pub loop-before-preserved : goal.loop-before-preserved
loop-before-preserved c =
    first_of_more c.args.kind c.args.bytes.now c.loop-before.before c.loop-before.invariant ∙ sym c.in_default.ensures

pub returns-in-Some : goal.returns-in-Some
returns-in-Some c =
    sym
    (first_found c.args.kind c.args.bytes.now (found_sign c.in-Some.found) (c.loop-before.before + 1) _
    (omega (arith, c.loop-before-test.true))
    (first_of_more c.args.kind c.args.bytes.now c.loop-before.before c.loop-before.invariant ∙ sym c.in-Some.ensures))
