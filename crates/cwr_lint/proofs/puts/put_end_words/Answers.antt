use Rattle.cwr_devices.specs.Steps.Sinks.{PutsText}
use Rattle.cwr_lint.proofs.lemmas.TextsPut.{none_unless, text_puts}
use Rattle.cwr_lint.proofs.puts.put_end_words.Goals as goal

pub returns-in-Ok : goal.returns-in-Ok
returns-in-Ok g c =
    let put : PutsText g.W.Target.contents g.W.Target.failures c.as_bytes.result.now c.put.result c.args.sink.now c.put.new.self = record {
      written = c.put.ensures.written;
      fault = c.put.ensures.fault;
      failed = c.put.ensures.failed;
      failures_counted = c.put.ensures.failures;
      again = λ failed. (c.put.ensures.again failed).1;
    } in (
      c.as_bytes.result.now,
      text_puts g.W.Target.contents g.W.Target.failures c.as_bytes.result.now c.put.result c.as_told.result c.args.sink.now
          c.put.new.self c.as_told.ensures put,
      none_unless c.put.result c.as_told.result _ c.as_told.ensures,
    )
