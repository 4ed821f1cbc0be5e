use Rattle.std.proofs.Common.{◌<◌, true≢false, arith}
use Rattle.cwr_devices.specs.Format.Failures.{most_failures}
use Rattle.cwr_files.proofs.lemmas.Pieces.{counted_more}
use Rattle.cwr_files.proofs.file_lines.FileLinesTarget.flush.Goals as goal

pub invariant_of-self-in-Err : goal.invariant_of-self-in-Err
invariant_of-self-in-Err g c =
    let more : g.B.Unmarked.failures < most_failures → g.B.Unmarked.failures < g.W.Target.failures c.flush.new.self =
    counted_more g.B.Unmarked.failures (g.W.Target.failures c.args.self.now.lines) (g.W.Target.failures c.flush.new.self)
    c.args.self.now.counted c.in-Err.ensures.failures in record {
      counted = λ few. omega (arith, more few);
      cut = λ e few. more few;
      marked = λ e. absurd (true≢false e);
    }
