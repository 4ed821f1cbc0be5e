use Rattle.std.proofs.Common.{◌∙◌}
use Rattle.cwr_advice.proofs.lemmas.OwnedShares.{owns_something}
use Rattle.cwr_advice.proofs.owners.owns_shares.Goals as goal

pub is_something-requires : goal.is_something-requires
is_something-requires c = c.owned_by.ensures.small

pub returns : goal.returns
returns c = c.is_something.ensures ∙ owns_something c.args.shown.now c.owned_by.result c.owned_by.ensures
