use Rattle.cwr_values.specs.Format.Rows.{canonical_text}
use Rattle.cwr_encode.proofs.lemmas.WholeWrites.{all_flushed, cut_off}
use Rattle.cwr_encode.proofs.whole.write_transmission.Goals as goal

pub returns-in-Ok-clause-writes : goal.returns-in-Ok-clause-writes
returns-in-Ok-clause-writes g c =
    all_flushed g.W.Target.contents g.W.Target.failures (canonical_text c.args.transmission.now) c.args.writer c.flushed.result.0
    c.new-sink.result c.put_transmission.new.sink _ _ c.flushed.result.1 c.new-sink.ensures.writer c.new-sink.ensures.empty
    c.in-Ok.ensures.puts c.flushed.ensures.kept c.flushed.ensures.ok c.flushed.ensures.err

pub returns-in-Err-clause-writes : goal.returns-in-Err-clause-writes
returns-in-Err-clause-writes g c =
    cut_off g.W.Target.contents g.W.Target.failures (canonical_text c.args.transmission.now) c.args.writer c.into_inner.result
    c.new-sink.result c.put_transmission.new.sink c.in-Err.fault c.in-Err.fault.written c.new-sink.ensures.writer
    c.new-sink.ensures.empty
    c.in-Err.ensures.puts c.in-Err.ensures.fault c.into_inner.ensures
