use Rattle.std.proofs.lemmas.Result.{on_ok_weaker}
use Rattle.cwr_calls.proofs.lemmas.WrittenRecords.{added}
use Rattle.cwr_calls.proofs.writing.put_whole.Goals as goal

pub returns : goal.returns
returns g c =
    on_ok_weaker c.encoded_held.result (added g.W.Target.contents g.W.Target.failures c.args.value.now c.transaction.result
    c.args.encoder.now c.transaction.new.self c.transaction.ensures.adds c.transaction.ensures.limits) c.encoded_held.ensures
