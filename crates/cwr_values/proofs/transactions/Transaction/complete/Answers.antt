use Rattle.cwr_values.proofs.lemmas.Beginnings.{complete_exact, keeps_begun}
use Rattle.cwr_values.proofs.transactions.Transaction.complete.Goals as goal

pub returns-clause-whole : goal.returns-clause-whole
returns-clause-whole c =
    complete_exact c.self.inside.step c.self.inside.records c.args.self.now c.is_whole.result c.self.invariant
    c.self.view_is c.is_whole.ensures.whole

pub returns-clause-begun : goal.returns-clause-begun
returns-clause-begun c =
    keeps_begun c.self.inside.step c.self.inside.records c.args.self.now c.self.invariant c.self.view_is
