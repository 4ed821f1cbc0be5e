use Rattle.cwr_select.proofs.selecting.encode.Goals as goal

pub returns-in-Transaction-clause-judged : goal.returns-in-Transaction-clause-judged
returns-in-Transaction-clause-judged g c =
    λ start records e. rw c.in-Transaction.is (c.transaction.ensures.judged c.requires.unfailed start records e)
