use Rattle.std.proofs.Common.{refl}
use Rattle.cwr_write.proofs.lemmas.TakenLines.{goes_on, stands_with, taken_fault}
use Rattle.cwr_write.proofs.writing.taken.Goals as goal

pub returns-in-Err-clause-takes : goal.returns-in-Err-clause-takes
returns-in-Err-clause-takes g c =
    taken_fault c.args.item.now c.args.reached g.W.Target.contents g.W.Target.failures c.in-Err.fault c.encode_fault.result
    c.args.encoder.now c.take_item.new.encoder c.in-Err.ensures.adds c.in-Err.ensures.judged c.encode_fault.ensures

pub returns-in-Ok-clause-takes : goal.returns-in-Ok-clause-takes
returns-in-Ok-clause-takes g c =
    let goes = goes_on c.args.item.now c.args.reached c.reached_with.result c.in-Ok.ensures.more c.reached_with.ensures in (
      c.args.item.now,
      refl,
      goes,
      c.in-Ok.ensures.adds.0,
      c.in-Ok.ensures.adds.1,
      c.in-Ok.ensures.adds.2,
      stands_with g.W.Target.contents c.args.item.now c.args.reached c.reached_with.result c.args.encoder.now
          c.take_item.new.encoder c.in-Ok.ensures.adds.0 c.in-Ok.ensures.limits goes c.reached_with.ensures
          c.in-Ok.ensures.judged,
    )
