use Rattle.std.proofs.Common.{sym, ap, ◌∙◌}
use Rattle.cwr_tables.specs.declared.works.Side.{Side}
use Rattle.cwr_tables.specs.Format.WorkTables.{is_on}
use Rattle.cwr_tables.proofs.lemmas.WorkFields.{shares_of_publisher, shares_of_writer}
use Rattle.cwr_tables.proofs.works.shares_of.Goals as goal

pub shares_from-requires-clause-there : goal.shares_from-requires-clause-there
shares_from-requires-clause-there c =
    shares_of_writer c.args.shown.now (sym (ap (λ (side : Side). is_on side c.args.shown.now) c.in-Writers.is) ∙ c.requires)

pub shares_from-requires-in-Publishers-clause-there : goal.shares_from-requires-in-Publishers-clause-there
shares_from-requires-in-Publishers-clause-there c =
    shares_of_publisher c.args.shown.now (sym (ap (λ (side : Side). is_on side c.args.shown.now) c.in-Publishers.is) ∙ c.requires)
