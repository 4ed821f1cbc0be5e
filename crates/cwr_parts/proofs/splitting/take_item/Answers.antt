use Rattle.cwr_parts.specs.Steps.SplitOutputs.{told_by}
use Rattle.cwr_parts.proofs.lemmas.ItemsTaken.{may_add_item, may_end_item, may_finish_item, takes_end, takes_foot, takes_head}
use Rattle.cwr_parts.proofs.lemmas.ItemsTaken.{takes_opening, takes_transaction}
use Rattle.cwr_parts.proofs.splitting.take_item.Goals as goal

pub add_transaction-requires-clause-may : goal.add_transaction-requires-clause-may
add_transaction-requires-clause-may g c =
    may_add_item (told_by g.O.Outputs.texts g.O.Outputs.failures g.O.Outputs.given_up g.O.W.Target.contents g.O.W.Target.failures)
    c.args.item c.in-Transaction.field-0 c.args.splitting.now c.args.outputs.now c.in-Transaction.is c.requires

pub end_group-requires : goal.end_group-requires
end_group-requires g c =
    may_end_item (told_by g.O.Outputs.texts g.O.Outputs.failures g.O.Outputs.given_up g.O.W.Target.contents g.O.W.Target.failures)
    c.args.item c.in-GroupClosed.field-0 c.args.splitting.now c.args.outputs.now c.in-GroupClosed.is c.requires

pub finish_output-requires-clause-may : goal.finish_output-requires-clause-may
finish_output-requires-clause-may g c =
    may_finish_item
    (told_by g.O.Outputs.texts g.O.Outputs.failures g.O.Outputs.given_up g.O.W.Target.contents g.O.W.Target.failures)
    c.args.item c.args.splitting.now c.args.outputs.now c.in-Ended.is c.requires

pub returns-in-Opened-clause-takes : goal.returns-in-Opened-clause-takes
returns-in-Opened-clause-takes g c =
    takes_opening
    (told_by g.O.Outputs.texts g.O.Outputs.failures g.O.Outputs.given_up g.O.W.Target.contents g.O.W.Target.failures)
    c.args.item c.in-Opened.field-0 c.args.splitting.now c.args.outputs.now tt c.in-Opened.is

pub returns-in-GroupOpened-clause-takes : goal.returns-in-GroupOpened-clause-takes
returns-in-GroupOpened-clause-takes g c =
    takes_head (told_by g.O.Outputs.texts g.O.Outputs.failures g.O.Outputs.given_up g.O.W.Target.contents g.O.W.Target.failures)
    c.args.item c.in-GroupOpened.field-0 c.args.splitting.now c.args.outputs.now tt c.in-GroupOpened.is

pub returns-in-Transaction-clause-takes : goal.returns-in-Transaction-clause-takes
returns-in-Transaction-clause-takes g c =
    takes_transaction
    (told_by g.O.Outputs.texts g.O.Outputs.failures g.O.Outputs.given_up g.O.W.Target.contents g.O.W.Target.failures)
    c.args.item c.in-Transaction.field-0 c.args.splitting.now c.add_transaction.new.splitting
    c.args.outputs.now
    c.add_transaction.new.outputs c.add_transaction.result c.in-Transaction.is c.add_transaction.ensures.adds

pub returns-in-GroupClosed-clause-takes : goal.returns-in-GroupClosed-clause-takes
returns-in-GroupClosed-clause-takes g c =
    takes_foot (told_by g.O.Outputs.texts g.O.Outputs.failures g.O.Outputs.given_up g.O.W.Target.contents g.O.W.Target.failures)
    c.args.item c.in-GroupClosed.field-0 c.args.splitting.now c.end_group.new.self c.args.outputs.now c.end_group.result
    c.in-GroupClosed.is c.requires c.end_group.ensures.ends

pub returns-in-Ended-clause-takes : goal.returns-in-Ended-clause-takes
returns-in-Ended-clause-takes g c =
    takes_end (told_by g.O.Outputs.texts g.O.Outputs.failures g.O.Outputs.given_up g.O.W.Target.contents g.O.W.Target.failures)
    c.args.item c.args.splitting.now c.finish_output.new.splitting c.args.outputs.now c.finish_output.new.outputs
    c.finish_output.result c.in-Ended.is c.finish_output.ensures.finishes

pub returns-in-GroupClosed-clause-written : goal.returns-in-GroupClosed-clause-written
returns-in-GroupClosed-clause-written g c = λ known e. c.end_group.ensures.written (g.O.Outputs.had c.args.outputs.now)
