use Rattle.std.proofs.Common.{◌≡◌, Bool, ◌+◌, Some, arith}
use Rattle.cwr_files.specs.Steps.NumberedFiles.{prefix_of}
use Rattle.cwr_files.specs.declared.faults.Fault.{Fault}
use Rattle.cwr_files.proofs.lemmas.PartsInHand.{drops, rests}
use Rattle.cwr_files.proofs.numberings.Numbering.keep.Goals as goal

pub returns-in-Ok-clause-named : goal.returns-in-Ok-clause-named
returns-in-Ok-clause-named g c =
    λ texts count failures text held has.
    let is : c.args.self.now.open_file ≡ Some c.in-Some.made = cc c.in-Some.ensures.value in
    rests Bool Fault (prefix_of c.args.self.now) text c.args.self.now.open_file c.in-Some.made c.in-Ok.replaced
    (g.S.Store.making c.args.store.now) (g.S.Store.making c.keep_named.new.store) (g.S.Store.held c.args.store.now)
    (g.S.Store.held c.keep_named.new.store) (g.S.Store.failures c.args.store.now) (g.S.Store.failures c.keep_named.new.store) texts count
    failures is held (λ began. c.in-Ok.ensures.kept texts text began has) c.keep_named.ensures.making c.keep_named.ensures.failures

pub returns-in-Err-clause-unnamed : goal.returns-in-Err-clause-unnamed
returns-in-Err-clause-unnamed g c =
    λ texts count failures held.
    let is : c.args.self.now.open_file ≡ Some c.in-Some.made = cc c.in-Some.ensures.value in
    rw c.take.ensures.after
    (drops (prefix_of c.args.self.now) c.args.self.now.open_file c.in-Some.made
    (g.S.Store.making c.args.store.now) (g.S.Store.making c.keep_named.new.store) (g.S.Store.held c.args.store.now)
    (g.S.Store.held c.keep_named.new.store) (g.S.Store.failures c.args.store.now) (g.S.Store.failures c.args.store.now + 1)
    (g.S.Store.failures c.keep_named.new.store) texts count failures is held (λ began. c.in-Err.ensures.unkept texts began)
    (λ lt. (omega arith, c.keep_named.ensures.failures lt)))
