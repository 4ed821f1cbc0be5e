use Rattle.std.proofs.Common.{refl}
use Rattle.cwr_parts.proofs.lemmas.JoiningOn.{put_fault, put_on, put_right, room_for}
use Rattle.cwr_parts.proofs.joined.Joined.put.Goals as goal

pub count-requires-clause-groups : goal.count-requires-clause-groups
count-requires-clause-groups g c =
    (room_for g.W.Target.contents g.W.Target.failures c.args.item.now c.args.self.now c.put_item.new.encoder tt c.requires.may
    c.in-Ok.ensures.adds c.in-Ok.ensures.limits).groups

pub count-requires-clause-transactions : goal.count-requires-clause-transactions
count-requires-clause-transactions g c =
    (room_for g.W.Target.contents g.W.Target.failures c.args.item.now c.args.self.now c.put_item.new.encoder tt c.requires.may
    c.in-Ok.ensures.adds c.in-Ok.ensures.limits).transactions

pub count-requires-clause-in_group : goal.count-requires-clause-in_group
count-requires-clause-in_group g c =
    (room_for g.W.Target.contents g.W.Target.failures c.args.item.now c.args.self.now c.put_item.new.encoder tt c.requires.may
    c.in-Ok.ensures.adds c.in-Ok.ensures.limits).in_group

pub count-requires-clause-records : goal.count-requires-clause-records
count-requires-clause-records g c =
    (room_for g.W.Target.contents g.W.Target.failures c.args.item.now c.args.self.now c.put_item.new.encoder tt c.requires.may
    c.in-Ok.ensures.adds c.in-Ok.ensures.limits).records

pub fault_of-requires : goal.fault_of-requires
fault_of-requires g c = put_right g.W.Target.contents c.args.item.now c.args.self.now _ c.requires.may c.in-Err.ensures.judged

pub returns-in-Ok : goal.returns-in-Ok
returns-in-Ok g c =
    put_on g.W.Target.contents g.W.Target.failures c.args.item.now c.args.self.now _ tt c.in-Ok.ensures.adds
    c.in-Ok.ensures.limits c.count.ensures

pub returns-in-Err : goal.returns-in-Err
returns-in-Err g c =
    put_fault g.W.Target.contents g.W.Target.failures c.args.item.now c.args.self.now _ c.in-Err.fault c.fault_of.result
    c.in-Err.ensures.judged c.in-Err.ensures.adds c.in-Err.ensures.limits refl c.fault_of.ensures
