use Rattle.cwr_calls.proofs.lemmas.WrittenRecords.{ended_writing}
use Rattle.cwr_calls.proofs.writing.write_lines.Goals as goal

pub returns-in-Ok : goal.returns-in-Ok
returns-in-Ok g c =
    ended_writing g.W.Target.contents (g.W.Target.contents c.args.writer) c.args.limits c.args.text.now c.new-encoder.result
    c.put_lines.new.encoder c.in-Ok.writer
    (record {
      encodes = c.new-encoder.ensures.represents;
      limits_are = c.new-encoder.ensures.limits;
      unfailed = c.new-encoder.ensures.unfailed;
    }) c.in_ok-put_lines.ensures c.in-Ok.ensures
