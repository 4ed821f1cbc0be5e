use Rattle.std.proofs.Common.{arith}
use Rattle.cwr_lines.proofs.lemmas.NumberedKept.{numbered_more}
use Rattle.cwr_lines.proofs.record_lists.are_numbered.Goals as goal

pub loop-i-preserved : goal.loop-i-preserved
loop-i-preserved c = record {
  within = omega (arith, c.loop-i-test.true);
  numbered =
      numbered_more c.args.transaction c.loop-i.i c.args.text.now c.line_at-whole.result.now c.args.starts.now _ c.loop-i-test.true
      c.loop-i.invariant.numbered c.line_at-whole.ensures (c.is_numbered.ensures c.if-not-is_numbered.false);
}
