use Rattle.std.proofs.Common.{ℕ, Some, sym, ap, subst}
use Rattle.cwr_files.specs.Format.Files.{Turns, counted_on}
use Rattle.cwr_files.specs.Steps.NewFiles.{IsDropped}
use Rattle.cwr_files.proofs.lemmas.Parts.{dropped}
use Rattle.cwr_files.proofs.new_files.NewFile.discard.Goals as goal

pub returns-in-Some-clause-dropped : goal.returns-in-Some-clause-dropped
returns-in-Some-clause-dropped g c =
    λ texts began. dropped c.args.self c.as_str.result.now (counted_on c.args.times (g.S.Store.failures c.args.store.now))
    (g.S.Store.failures c.drop_part.new.store) texts (g.S.Store.held c.args.store.now)
    (g.S.Store.held c.give_up.new.self) (g.S.Store.held c.drop_part.new.store) (g.S.Store.making c.args.store.now)
    (rw c.in-Some.is (ap Some (sym c.as_str.ensures.value))) began c.give_up.ensures.given_up
    (subst (λ (n : ℕ). Turns (g.S.Store.held c.give_up.new.self) (g.S.Store.held c.drop_part.new.store)
    (IsDropped c.as_str.result.now n (g.S.Store.failures c.drop_part.new.store))) c.give_up.ensures.failures c.drop_part.ensures.dropped)
