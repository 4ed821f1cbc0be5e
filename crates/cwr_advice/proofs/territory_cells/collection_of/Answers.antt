use Rattle.std.proofs.Common.{sym, ◌∙◌}
use Rattle.cwr_advice.proofs.lemmas.TerritoryFields.{collection_of_publisher, collection_of_writer}
use Rattle.cwr_advice.proofs.territory_cells.collection_of.Goals as goal

pub collection_from-requires-clause-there : goal.collection_from-requires-clause-there
collection_from-requires-clause-there c = collection_of_publisher c.args.shown.now (sym c.is_of.ensures ∙ c.if-is_of.true)

pub collection_from-requires-else-is_of-clause-there : goal.collection_from-requires-else-is_of-clause-there
collection_from-requires-else-is_of-clause-there c =
    collection_of_writer c.args.shown.now c.requires (sym c.is_of.ensures ∙ c.if-is_of.false)
