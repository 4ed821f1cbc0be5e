use Rattle.std.proofs.Common.{List, subst}
use Rattle.cwr_lines.specs.Format.Growth.{AsksMemory}
use Rattle.cwr_lines.specs.Format.Records.{RecordValue}
use Rattle.cwr_values.proofs.lemmas.Beginnings.{keeps_more}
use Rattle.cwr_values.proofs.transactions.Transaction.push_at.Goals as goal

pub invariant_of-self : goal.invariant_of-self
invariant_of-self c =
    keeps_more c.args.step c.self.inside.records c.args.self.now _ c.args.next c.self.invariant.each c.self.view_is
    c.push.ensures.fits c.requires c.in-Ok.ensures.ok

pub returns-in-Err-clause-memory : goal.returns-in-Err-clause-memory
returns-in-Err-clause-memory c = subst (λ (rs : List RecordValue). AsksMemory rs c.args.next) c.self.view_is c.in-Err.ensures.asks
