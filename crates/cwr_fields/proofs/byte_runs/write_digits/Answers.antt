use Rattle.std.proofs.Common.{◌-◌, ◌+◌, ◌%◌, arith}
use Rattle.std.proofs.lemmas.List.{length-set}
use Rattle.cwr_fields.proofs.lemmas.DigitsWritten.{digit_written, all_written}
use Rattle.cwr_fields.proofs.byte_runs.write_digits.Goals as goal

pub loop-at-preserved : goal.loop-at-preserved
loop-at-preserved c =
    let step =
    digit_written c.loop-at.cell c.loop-at.at c.loop-at.rest c.args.number (omega arith) c.loop-at.invariant.within
    c.loop-at.invariant.written in
    record { within = omega (arith, length-set c.loop-at.cell (c.loop-at.at - 1) (48 + c.loop-at.rest % 10)); written = step }

pub returns : goal.returns
returns c =
    all_written c.loop-at.cell c.args.cell.now c.loop-at.at c.loop-at.rest c.args.number (omega arith) (omega arith)
    c.loop-at.invariant.written
