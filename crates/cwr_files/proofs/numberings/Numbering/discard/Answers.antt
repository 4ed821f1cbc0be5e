use Rattle.std.proofs.Common.{◌≡◌, Some}
use Rattle.cwr_files.specs.Format.Files.{counted_on}
use Rattle.cwr_files.specs.Steps.NumberedFiles.{prefix_of}
use Rattle.cwr_files.proofs.lemmas.PartsInHand.{counted_up_to, drops}
use Rattle.cwr_files.proofs.numberings.Numbering.discard.Goals as goal

pub returns-in-Some-clause-drops : goal.returns-in-Some-clause-drops
returns-in-Some-clause-drops g c =
    λ texts count failures held.
    let is : c.args.self.now.open_file ≡ Some c.in-Some.made = cc c.in-Some.ensures.value in
    rw c.take.ensures.after
    (drops (prefix_of c.args.self.now) c.args.self.now.open_file c.in-Some.made
    (g.S.Store.making c.args.store.now) (g.S.Store.making c.discard.new.store) (g.S.Store.held c.args.store.now)
    (g.S.Store.held c.discard.new.store) (g.S.Store.failures c.args.store.now) (counted_on c.args.times (g.S.Store.failures c.args.store.now))
    (g.S.Store.failures c.discard.new.store) texts count failures is held (λ began. c.discard.ensures.dropped texts began)
    (counted_up_to c.args.times (g.S.Store.failures c.args.store.now) (g.S.Store.failures c.discard.new.store) c.discard.ensures.failures))
