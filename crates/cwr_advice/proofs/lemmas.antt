-- Digits by their weights, added up pair by pair.
pub mod WeightedDigits
-- The fields that the rules of advice read, in the kinds that carry them, and tests of kinds.
pub mod AdvisedFields
-- The fields of territories that the rules of advice read.
pub mod TerritoryFields
-- What is asked of all records, with one more of them.
pub mod CountedFacts
-- A look from the end of the first records back to the first, and the first record alone.
pub mod BegunChains
-- What passes among the first records after the last of another kind, looked for from the last one back.
pub mod SinceParty
-- The records of a writer, one by one: those up to the next writer.
pub mod WriterRecords
-- What passes of a list, element by element.
pub mod KeptInTurn
-- The advice on a transaction, record by record.
pub mod AdviceByRecord
-- What a record owns of a work, read once.
pub mod OwnedShares
-- Writers who lack a record that they ask for, with one record more.
pub mod OwingWriters
-- What stands before a record, with one record more.
pub mod CalmRecords
-- The last writer among records, with one more of them, and publishers that name it.
pub mod LastWriters
-- Texts without an ampersand have no character as HTML writes it.
pub mod Ampersands
-- Texts of ASCII alone, and UTF-8.
pub mod AsciiTexts
-- Days to come, whenever a transmission is sent.
pub mod EarlyDays
-- A work of which what is kept says that there is no advice on it.
pub mod CleanWorks
-- Behind the last field of a record there is no cell.
pub mod LastFields
-- A record that is neither a publisher, nor a writer, nor a territory leaves most of what is kept as it is.
pub mod OtherRecords
