-- No whole transmission is a proper front of another: TRL comes once, at the end.
pub mod PrefixFree
-- A transaction begins with its header and has no other.
pub mod HeadFirst
-- A test that computes whether symbols match a pattern, and one that shows that nothing does.
pub mod Matcher
-- Patterns in a form in which those that match the same symbols here are the same.
pub mod NormalForms
-- Every symbol stands in one list, so what the check computes of each of them holds of any.
pub mod AllSymbols
-- What is left of a transmission at each stage, as a pattern, and that the table of stages follows it.
pub mod StagePatterns
-- A whole transmission is what is left at the start.
pub mod WholePatterns
-- At each stage something is left with which a transmission ends: the check computes it.
pub mod RestsLeft
-- Symbols that begin a whole transmission are those by which the table continues from the start.
pub mod StageRuns
-- What one more symbol changes in what is counted of symbols.
pub mod OneMore
-- The numbers of a transaction, record by record: counters give the same as its place in the group and its length.
pub mod TransactionNumbers
-- The numbers of a transmission, record by record: counters give the same as sums over its groups and transactions.
pub mod NumbersAreCounted
-- What the last symbols say of their stage, and what one more symbol changes in that.
pub mod SymbolsNameStages
-- At each stage the table comes, by each symbol, to the stage that the symbols then name: the check computes it.
pub mod StagesKeepNames
-- The stage that the table comes to is the one that the symbols name.
pub mod StageNames
-- Symbols stand where the table comes to, and leave what is left there.
pub mod StageStands
-- The number in a field of a record inside a transaction.
pub mod InnerNumbers
-- A tally that represents some symbols represents one more, expects the numbers of each transmission that continues so, and
-- bars what may not come.
pub mod TallySteps
-- The step of a transaction is the one that its records name.
pub mod StepNames
-- What is left of a transaction at each step, and that the table of steps follows it.
pub mod StepPatterns
-- A transmission is within the limits exactly where none of its fronts passes one.
pub mod WithinByFronts
-- From each stage one way to end has exactly the numbers of the table.
pub mod WaysToEnd
-- From each stage no way to end has a lower number than the table.
pub mod LeastNeeds
-- A transmission within a limit continues from some symbols exactly where what is counted of them and what must still come
-- are within it.
pub mod LimitsByNeeds
-- What bars a symbol: the first limit that what was counted and what must still come pass.
pub mod FirstBars
-- A tally with one symbol more, and one of no symbols.
pub mod TallyWithOneMore
-- What may come is what some transmission continues with, and what is barred may not come.
pub mod WhatMayCome
-- What bars all of some symbols is what bars the one of them that needs least.
pub mod FirstBarsOfKinds
-- What is open at a stage is what the last symbol says.
pub mod ScopesNamed
-- The records of the open transaction, as they are counted after its header, stand at the step of the stage.
pub mod OpenTransactions
-- Orders of records without carried ones are those that they were before these were taken.
pub mod UncarriedOrders
-- A numbering with one record more, and what it has counted of records in whatever order.
pub mod NumberingsKept
-- After symbols with which a transmission within the limits begins, each symbol and each kind of record may come, or
-- something bars it.
pub mod EachAnswered
-- What is counted of some records with a whole transaction after them.
pub mod CountedOn
-- What a tally counts of a whole transaction at once, and the stage that this comes to.
pub mod WholeSteps
