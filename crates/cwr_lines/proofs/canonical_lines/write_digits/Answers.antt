use Rattle.std.proofs.Common.{◌-◌, ◌+◌, ◌%◌, arith}
use Rattle.std.proofs.lemmas.List.{length-set}
use Rattle.cwr_fields.proofs.lemmas.DigitsWritten.{digit_written, all_written}
use Rattle.cwr_lines.proofs.lemmas.DigitsInZeros.{zeros_before, zeros_written}
use Rattle.cwr_lines.proofs.canonical_lines.write_digits.Goals as goal

pub loop-at-preserved : goal.loop-at-preserved
loop-at-preserved c =
    let step =
    digit_written c.loop-at.cell c.loop-at.at c.loop-at.rest c.args.number (omega arith) c.loop-at.invariant.within
    c.loop-at.invariant.written in
    record {
      within = omega (arith, length-set c.loop-at.cell (c.loop-at.at - 1) (48 + c.loop-at.rest % 10));
      written = step;
      zeros = zeros_before c.loop-at.cell c.loop-at.at (48 + c.loop-at.rest % 10) c.loop-at.invariant.zeros;
    }

pub returns-else-rest-gt0 : goal.returns-else-rest-gt0
returns-else-rest-gt0 c =
    zeros_written c.loop-at.cell c.args.cell.now c.loop-at.at c.loop-at.rest c.args.number (omega (arith, c.if-rest-gt0.false))
    (omega arith) c.loop-at.invariant.zeros c.loop-at.invariant.written

pub returns-after-loop-at : goal.returns-after-loop-at
returns-after-loop-at c =
    all_written c.loop-at.cell c.args.cell.now c.loop-at.at c.loop-at.rest c.args.number (omega (arith, c.loop-at-test.false))
    (omega arith) c.loop-at.invariant.written
