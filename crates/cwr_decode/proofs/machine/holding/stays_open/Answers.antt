use Rattle.std.proofs.Common.{◌∷◌, ◌++◌, [], sym, ◌∙◌}
use Rattle.cwr_fields.specs.declared.codes.TransactionType.TheVariants.{Acknowledgement}
use Rattle.cwr_shape.specs.Format.NextSymbols.{scope_after, transactions_begun, has_open_transaction}
use Rattle.cwr_decode.proofs.lemmas.LineSteps.{continuing_yes, continuing_outside, continuing_begins, inside_scope, outside_scope}
use Rattle.cwr_decode.proofs.machine.holding.stays_open.Goals as goal

pub returns-in-Transaction : goal.returns-in-Transaction
returns-in-Transaction c = λ xs symbol st next.
    continuing_yes c.transactions.result c.transactions-begun.result (transactions_begun Acknowledgement (xs ++ symbol ∷ []))
    (transactions_begun Acknowledgement xs) (has_open_transaction (scope_after (xs ++ symbol ∷ [])))
    (c.transactions.ensures.counted (xs ++ symbol ∷ []) next) (c.transactions-begun.ensures.counted xs st)
    c.if-transactions-begun.true
    (inside_scope (scope_after (xs ++ symbol ∷ [])) (sym (c.scope.ensures (xs ++ symbol ∷ []) next) ∙ c.in-Transaction.is))

pub returns-in_default : goal.returns-in_default
returns-in_default c = λ xs symbol st next.
    continuing_outside c.transactions.result c.transactions-begun.result (transactions_begun Acknowledgement (xs ++ symbol ∷ []))
    (transactions_begun Acknowledgement xs) (has_open_transaction (scope_after (xs ++ symbol ∷ [])))
    (c.transactions.ensures.counted (xs ++ symbol ∷ []) next) (c.transactions-begun.ensures.counted xs st)
    c.if-transactions-begun.true
    (outside_scope (scope_after (xs ++ symbol ∷ []))
    (λ e. c.in_default.not-Transaction (c.scope.ensures (xs ++ symbol ∷ []) next ∙ e)))

pub returns-else-transactions-begun : goal.returns-else-transactions-begun
returns-else-transactions-begun c = λ xs symbol st next.
    continuing_begins c.transactions.result c.transactions-begun.result (transactions_begun Acknowledgement (xs ++ symbol ∷ []))
    (transactions_begun Acknowledgement xs) (has_open_transaction (scope_after (xs ++ symbol ∷ [])))
    (c.transactions.ensures.counted (xs ++ symbol ∷ []) next) (c.transactions-begun.ensures.counted xs st)
    c.if-transactions-begun.false
