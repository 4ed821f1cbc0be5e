use Rattle.std.proofs.Common.{sym, ◌∙◌}
use Rattle.cwr_advice.proofs.lemmas.AdvisedFields.{shares_of_other, shares_of_publisher}
use Rattle.cwr_advice.proofs.stated.stated_of.Goals as goal

pub stated_from-requires-clause-there : goal.stated_from-requires-clause-there
stated_from-requires-clause-there c = shares_of_publisher c.args.shown.now (sym c.is_publisher.ensures ∙ c.if-is_publisher.true)

pub stated_from-requires-else-is_publisher-clause-there : goal.stated_from-requires-else-is_publisher-clause-there
stated_from-requires-else-is_publisher-clause-there c =
    shares_of_other c.args.shown.now c.requires (sym c.is_publisher.ensures ∙ c.if-is_publisher.false)
