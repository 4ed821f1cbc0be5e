use Rattle.cwr_judge.specs.Format.Items.{item_records}
use Rattle.cwr_parts.proofs.lemmas.PutItems.{item_failed, item_put, right_item}
use Rattle.cwr_parts.proofs.lemmas.WritersCounted.{bytes_failed, bytes_put}
use Rattle.cwr_parts.proofs.split_output.put.Goals as goal

pub fault_of-requires : goal.fault_of-requires
fault_of-requires g c = right_item g.W.Target.contents c.args.item.now c.args.encoder.now _ c.requires.may c.in-Err.ensures.judged

pub returns-in-Ok-clause-puts : goal.returns-in-Ok-clause-puts
returns-in-Ok-clause-puts g c =
    item_put g.W.Target.contents g.W.Target.failures c.args.item.now c.args.encoder.now c.put_item.new.encoder tt
    c.in-Ok.ensures.adds c.in-Ok.ensures.limits

pub returns-in-Err-clause-puts : goal.returns-in-Err-clause-puts
returns-in-Err-clause-puts g c =
    item_failed g.W.Target.contents g.W.Target.failures c.args.item.now c.args.encoder.now c.put_item.new.encoder c.in-Err.fault
    c.fault_of.result c.requires.may c.in-Err.ensures.judged c.in-Err.ensures.adds c.fault_of.ensures

pub returns-in-Ok-clause-written : goal.returns-in-Ok-clause-written
returns-in-Ok-clause-written g c =
    bytes_put g.W.Target.contents g.W.Target.failures (item_records c.args.item.now) c.args.encoder.now c.put_item.new.encoder tt
    c.in-Ok.ensures.adds

pub returns-in-Err-clause-written : goal.returns-in-Err-clause-written
returns-in-Err-clause-written g c =
    bytes_failed g.W.Target.contents g.W.Target.failures (item_records c.args.item.now) c.args.encoder.now c.put_item.new.encoder
    c.in-Err.fault c.fault_of.result c.in-Err.ensures.adds c.fault_of.ensures
