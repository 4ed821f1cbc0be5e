use Rattle.cwr_parts.proofs.lemmas.PutItems.{item_put, right_item}
use Rattle.cwr_select.proofs.lemmas.ItemsWritten.{item_failed}
use Rattle.cwr_select.proofs.selecting.put.Goals as goal

pub fault_of-requires : goal.fault_of-requires
fault_of-requires g c = right_item g.W.Target.contents c.args.item.now c.args.encoder.now _ c.requires.may c.in-Err.ensures.judged

pub returns-in-Ok : goal.returns-in-Ok
returns-in-Ok g c =
    item_put g.W.Target.contents g.W.Target.failures c.args.item.now c.args.encoder.now c.encode.new.encoder tt
    c.in-Ok.ensures.adds c.in-Ok.ensures.limits

pub returns-in-Err : goal.returns-in-Err
returns-in-Err g c =
    item_failed (Unit {0}) g.W.Target.contents g.W.Target.failures c.args.item.now c.args.encoder.now c.encode.new.encoder
    c.in-Err.fault
    c.fault_of.result c.requires.may c.in-Err.ensures.judged c.in-Err.ensures.adds c.in-Err.ensures.limits c.fault_of.ensures
