use Rattle.cwr_files.proofs.lemmas.Counts.{kept_then_kept}
use Rattle.cwr_files.proofs.numbered_files.NumberedFilesOutputs.next.Goals as goal

pub invariant_of-self-clause-counted : goal.invariant_of-self-clause-counted
invariant_of-self-clause-counted g c =
    kept_then_kept g.B.Unsplit.failures (g.S.Store.failures c.args.self.now.store.now) (g.S.Store.failures c.next.new.store)
    c.args.self.now.counted c.next.ensures.store_failures

pub invariant_of-self-clause-failed : goal.invariant_of-self-clause-failed
invariant_of-self-clause-failed g c =
    c.next.ensures.fault g.B.Unsplit.failures c.args.self.now.counted c.args.self.now.failed
