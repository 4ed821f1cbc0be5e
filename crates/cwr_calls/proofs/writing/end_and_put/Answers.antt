use Rattle.std.proofs.Common.{[], ◌∷◌}
use Rattle.std.proofs.lemmas.Result.{on_ok_weaker}
use Rattle.cwr_calls.specs.Steps.Writings.{held_records}
use Rattle.cwr_calls.proofs.lemmas.WrittenRecords.{ends_and_puts}
use Rattle.cwr_calls.proofs.writing.end_and_put.Goals as goal

pub returns : goal.returns
returns g c =
    on_ok_weaker c.put_outside.result (ends_and_puts g.W.Target.contents (c.args.value.now ∷ []) (held_records c.args.held)
    c.args.encoder.now c.end_transaction.new.encoder c.put_outside.new.encoder
    c.in_ok-end_transaction.ensures) c.put_outside.ensures
