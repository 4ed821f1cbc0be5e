-- The numbers of the items that were handed out.
pub mod CountedTotals
-- The lines of items are those of all but the last, and then those of the last.
pub mod LinesOfItems
-- What a run has put so far continues with each item, up to the verdict or a fault.
pub mod ReportsOn
-- What a report adds and puts, from what stands before the items to what stands for the verdict, where it writes the lines of `it`.
pub mod ReportSteps
-- What was read last, from item to item and at the end of a run.
pub mod LastReported
-- What a whole run has put, and what its writer then has.
pub mod ReportsWhole
-- What is told of a text says its verdict, and all of a text that begins with a transmission.
pub mod RightReports
-- What a report says of a text that is known: the items before its end are those that its lines give.
pub mod ToldTexts
-- What is watched for comes among items as among each.
pub mod FindingsWatched
-- What stands at the end of a run came in the items before its verdict.
pub mod WatchedRuns
-- What is written of explained findings is what a check writes of them, with indented lines put in.
pub mod NotedTexts
-- A report after transactions of which nothing is told: it is as if these had been read and their lines put.
pub mod ToldReports
-- What a viewer sees comes item by item, up to the last of a transmission.
pub mod Viewed
-- A run and what comes after its verdict are one run.
pub mod LastSteps
