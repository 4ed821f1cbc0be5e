-- The cells of acknowledgements by their names, and what some of a transaction's first records is.
pub mod NamedCells
-- The fields of acknowledgements and of messages.
pub mod AckFields
-- The status that the header of an acknowledgement names.
pub mod NamedStatus
-- The transactions that are found in transmissions, with a transmission more.
pub mod FoundTransactions
-- What follows from a fact on an end follows on that end.
pub mod Ends
-- The answers that count of several: with one more, whether one is by a sender, and whether there is one.
pub mod CountingOnes
-- The answers to one transaction that are kept of a group, with one answer more.
pub mod KeptAnswers
-- The transactions that are found in transmissions are those that stand there.
pub mod FoundPlaces
-- The groups of transmissions of which one group is changed.
pub mod ChangedGroups
-- What is told of acknowledgements, with one more.
pub mod ToldMore
-- What is kept stands for what was read: at the start, after an HDR record, and after an acknowledgement.
pub mod Keeping
-- That one answer counts over another is an order: each counts over itself, of two one counts over the other, and it goes on.
pub mod CountsOver
-- Of the answers of each sender just one counts, over all others of that sender.
pub mod WhichCount
