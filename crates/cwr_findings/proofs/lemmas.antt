-- A record's cell of a name is that of the field that has the name, and is as wide as the field.
pub mod NamedCells
-- What the test of a record's kind says.
pub mod KindTests
-- What the records before one leave behind, with one more of them.
pub mod LeftBehind
-- The first records of a list with one more of them, and what a test finds among them.
pub mod OneMore
-- The fields that the rules read, in the kinds that carry them.
pub mod RuleFields
-- Blank cells write no number, and so count as 0.
pub mod NumberCells
-- What the rules ask, by the cells that a record shows.
pub mod RuleTests
-- The shares of records, added up.
pub mod AddedShares
-- What the rules ask of a header's numbers, by the cells that it shows.
pub mod HeaderTests
-- The parties of a block, as a walk meets them.
pub mod BlockParties
-- A set of the publishers' numbers, one record after another.
pub mod PublisherNumbers
-- Where the copy of an acknowledgement starts, record by record.
pub mod CopyStarts
-- The findings at a record, rule by rule.
pub mod FoundByRule
-- Counts over the records of a transaction, with one more of them.
pub mod CountedRecords
-- The findings of a transaction, record by record.
pub mod FoundByRecord
-- What makes a test false.
pub mod FalseTests
-- One record more of a work that is added up, and a work whose sums say that nothing is found.
pub mod SummedRecords
-- The parties of an agreement's blocks, with one record more: only those of the last block can become more.
pub mod OpenBlocks
-- An agreement of which no record breaks a rule, one record after another.
pub mod SummedSides
-- Sums over the copy of an acknowledgement, or over a bare work or agreement, one record after another.
pub mod SummedCopies
-- The cells of a header that say whose a transaction is.
pub mod HeaderCells
