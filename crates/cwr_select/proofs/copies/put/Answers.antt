use Rattle.cwr_select.proofs.lemmas.WholeCells.{never_refused, set_whole}
use Rattle.cwr_select.proofs.copies.put.Goals as goal

pub unreachable-requires : goal.unreachable-requires
unreachable-requires c =
    never_refused c.args.j c.args.text.now c.args.draft.now.kind c.in-Err.field-0 c.requires c.in-Err.ensures.fault

pub returns : goal.returns
returns c = set_whole c.args.j c.args.text.now c.args.draft.now c.set.new.self c.requires c.in-Ok.ensures.ok
