use Rattle.std.proofs.Common.{[], ◌∷◌}
use Rattle.std.proofs.lemmas.Result.{on_ok_weaker}
use Rattle.cwr_calls.proofs.lemmas.WrittenRecords.{added}
use Rattle.cwr_calls.proofs.writing.put_opening.Goals as goal

pub returns : goal.returns
returns g c =
    on_ok_weaker c.encoded.result (added g.W.Target.contents g.W.Target.failures (c.args.value.now ∷ []) c.open.result
    c.args.encoder.now c.open.new.self c.open.ensures.adds c.open.ensures.limits) c.encoded.ensures
