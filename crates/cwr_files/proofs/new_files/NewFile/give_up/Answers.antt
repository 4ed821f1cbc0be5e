use Rattle.std.proofs.Common.{ℕ, subst}
use Rattle.cwr_files.specs.Format.Files.{counted_on}
use Rattle.cwr_files.specs.Steps.NewFiles.{EndsDropped}
use Rattle.cwr_files.proofs.new_files.NewFile.give_up.Goals as goal

pub returns-clause-dropped : goal.returns-clause-dropped
returns-clause-dropped g c =
    λ texts began. subst (λ (n : ℕ). EndsDropped c.args.self (counted_on n (g.S.Store.failures c.args.store.now))
    (g.S.Store.failures c.discard.new.store) texts (g.S.Store.held c.discard.new.store)) c.failures-times.ensures
    (c.discard.ensures.dropped texts began)
