use Rattle.std.proofs.Common.{[], arith, inr}
use Rattle.cwr_write.proofs.lemmas.ItemReasons.{none_data, own_among}
use Rattle.cwr_write.proofs.lemmas.NoItemData.{none_at, none_empty}
use Rattle.cwr_write.proofs.items.item_of.Goals as goal

pub returns-in_default-clause-none : goal.returns-in_default-clause-none
returns-in_default-clause-none c =
    λ line. none_empty c.args.encoding c.args.values.now (omega (arith, c.in_default.ensures.item.3))

pub returns-in-Err-clause-none : goal.returns-in-Err-clause-none
returns-in-Err-clause-none c =
    λ line. none_at c.args.encoding c.args.values.now 0 c.in-Some.first.now c.in-Some.ensures.item.3.0 c.in-Some.ensures.item.1
    c.in-Err.ensures.err

pub returns-in-Err-clause-reason : goal.returns-in-Err-clause-reason
returns-in-Err-clause-reason c =
    inr (own_among c.args.encoding c.args.values.now 0 c.in-Some.first.now c.in-Err.fault [] c.in-Some.ensures.item.3.0
    c.in-Some.ensures.item.1 c.in-Err.ensures.reason.0 (none_data c.args.encoding c.args.values.now) tt c.in-Err.ensures.reason.1)
