use Rattle.std.proofs.Common.{List, ℕ, [], subst}
use Rattle.cwr_devices.specs.Steps.Sinks.{HasWritten}
use Rattle.cwr_explain.proofs.lemmas.WordsAfter.{text_cut, text_kept}
use Rattle.cwr_explain.proofs.explaining.write_text.Goals as goal

pub returns-in-Err-clause-text : goal.returns-in-Err-clause-text
returns-in-Err-clause-text g c =
    text_kept g.W.Target.contents c.args.text.now c.args.writer c.into_inner-writer.result c.put-put.new.self
    c.in-Err.fault.written c.into_inner-writer.ensures c.in-Err.ensures.fault
    (subst (λ (t : List ℕ). HasWritten g.W.Target.contents (g.W.Target.contents c.args.writer) t c.put-put.new.self)
    c.as_bytes.ensures.value (c.put-put.ensures.written (g.W.Target.contents c.args.writer) [] c.new-sink.ensures.empty))

pub returns-in-Err-flush-clause-text : goal.returns-in-Err-flush-clause-text
returns-in-Err-flush-clause-text g c =
    text_cut g.W.Target.contents c.args.text.now c.args.writer c.into_inner-writer.result c.flush.new.self c.put-put.new.self
    c.written-written.result c.into_inner-writer.ensures c.flush.ensures.bytes c.written-written.ensures
    (subst (λ (t : List ℕ). HasWritten g.W.Target.contents (g.W.Target.contents c.args.writer) t c.put-put.new.self)
    c.as_bytes.ensures.value (c.put-put.ensures.written (g.W.Target.contents c.args.writer) [] c.new-sink.ensures.empty))
