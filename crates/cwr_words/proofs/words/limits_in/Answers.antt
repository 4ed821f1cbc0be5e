use Rattle.cwr_words.proofs.words.limits_in.Goals as goal

pub returns-in_err-records : goal.returns-in_err-records
returns-in_err-records c = rw c.from_residual.ensures (λ limits h. c.in_err-records.ensures limits.records h.records)

pub returns-in_err-groups : goal.returns-in_err-groups
returns-in_err-groups c = rw c.from_residual-in_err-groups.ensures (λ limits h. c.in_err-groups.ensures limits.groups h.groups)

pub returns-in_err-transaction : goal.returns-in_err-transaction
returns-in_err-transaction c =
    rw c.from_residual-in_err-transaction.ensures (λ limits h. c.in_err-transaction.ensures limits.transaction h.transaction)
