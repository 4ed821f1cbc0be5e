use Rattle.cwr_calls.proofs.lemmas.WrittenRecords.{finished}
use Rattle.cwr_calls.proofs.writing.finish.Goals as goal

pub returns-in_default-Ok : goal.returns-in_default-Ok
returns-in_default-Ok g c =
    λ start limits records h. finished g.W.Target.contents g.W.Target.failures start limits records c.args.encoder
    c.finish.result.0 c.finish.result.1 c.in_default-Ok.field-0-1 c.in_default-Ok.is-1 c.finish.ensures.finishes h
