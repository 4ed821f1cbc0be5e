use Rattle.std.proofs.Common.{[], ◌∷◌}
use Rattle.std.proofs.lemmas.Result.{on_ok_weaker}
use Rattle.cwr_calls.proofs.lemmas.WrittenRecords.{added}
use Rattle.cwr_calls.proofs.writing.put_foot.Goals as goal

pub returns : goal.returns
returns g c =
    on_ok_weaker c.encoded.result (added g.W.Target.contents g.W.Target.failures (c.args.value.now ∷ []) c.end_group.result
    c.args.encoder.now c.end_group.new.self c.end_group.ensures.adds c.end_group.ensures.limits) c.encoded.ensures
