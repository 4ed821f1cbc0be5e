use Rattle.cwr_values.proofs.lemmas.Beginnings.{keeps_begun}
use Rattle.cwr_values.proofs.transactions.Transaction.len.Goals as goal

pub returns-clause-begun : goal.returns-clause-begun
returns-clause-begun c =
    keeps_begun c.self.inside.step c.self.inside.records c.args.self.now c.self.invariant c.self.view_is
