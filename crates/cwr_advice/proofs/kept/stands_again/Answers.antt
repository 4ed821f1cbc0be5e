use Rattle.std.proofs.Common.{sym, ◌∙◌}
use Rattle.cwr_advice.proofs.kept.stands_again.Goals as goal

pub is_number_among-requires : goal.is_number_among-requires
is_number_among-requires c = sym c.is_territory.ensures ∙ c.if-not-is_territory.false
