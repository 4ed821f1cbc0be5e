use Rattle.cwr_write.proofs.lemmas.TakenLines.{none_made, taken_result}
use Rattle.cwr_write.proofs.writing.take_line.Goals as goal

pub returns-in-Ok-item_in-clause-takes : goal.returns-in-Ok-item_in-clause-takes
returns-in-Ok-item_in-clause-takes g c =
    taken_result c.args.encoding c.args.line.now c.in-Ok.value c.args.reached g.W.Target.contents g.W.Target.failures
    c.in-Ok-item_in.item c.taken.result c.args.encoder.now c.taken.new.encoder c.in-Ok.ensures.ok.0 c.in-Ok.ensures.ok.1
    c.in-Ok-item_in.ensures.ok c.in-Ok-item_in.ensures.kinded c.taken.ensures.takes

pub returns-clause-takes : goal.returns-clause-takes
returns-clause-takes g c =
    none_made c.args.encoding c.args.line.now c.in-Ok.value c.args.reached g.W.Target.contents g.W.Target.failures
    c.in-Err-item_in.fault c.args.encoder.now c.in-Ok.ensures.ok.0 c.in-Ok.ensures.ok.1 c.in-Err-item_in.ensures.err
    c.in-Err-item_in.ensures.none c.in-Err-item_in.ensures.reason
