-- The canonical text of a transaction's rows: its records are numbered on.
pub mod TransactionTexts
-- What is put, row by row, of a transaction.
pub mod PutRows
-- What may come at the stages between calls, within the limits.
pub mod Comes
-- An encoder with one record more.
pub mod Adding
-- What the calls around groups know: the numbers of GRH and GRT, and what bars them.
pub mod Groups
-- Behind a whole transaction of the open group's type the group may end.
pub mod Ready
-- Within which limits a transmission continues by a whole transaction of the open group's type: by sums.
pub mod Reaching
-- What the stage tells of the open group.
pub mod OpenTypes
-- What a call knows that adds a whole transaction.
pub mod Transactions
-- What an encoder has written once TRL came.
pub mod Ends
-- The part of some records is the canonical text of the rows with which each transmission begins that they begin.
pub mod PartLaws
-- What is put, one after another, of things that are numbered on.
pub mod Numbered
-- What counting the records and transactions of groups gives.
pub mod Totals
-- The canonical text of a transmission, group by group.
pub mod WholeTexts
-- A transmission within the limits has no more groups and records than any limits allow.
pub mod Few
-- What a writer has once a whole text was put to a new sink.
pub mod WholeWrites
-- A call whose records continue a transmission is no mistake of the caller: only a limit or the writer can refuse it.
pub mod NoMistakes
