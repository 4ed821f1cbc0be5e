-- What stands in a room once elements are put in their places.
pub mod PutElements
-- What a line that was taken carries and a record that it holds.
pub mod CarriedLines
-- The numbers of the items that were read, and their records.
pub mod CountedItems
-- The items that were read come before the verdict.
pub mod ReadItems
-- What is written goes on, record by record, and ends.
pub mod WrittenRecords
-- The records of a text's lines are written, line by line, up to the text's end or to TRL's line.
pub mod WrittenLines
-- The findings of items are listed, item by item.
pub mod ListedFindings
-- What a run over a text in memory has written to an empty writer.
pub mod ReportedTexts
-- The line of a record in which nothing was set, field by field.
pub mod BlankTexts
-- What a selection of a text in memory answers, and what C is told of it.
pub mod SelectedTexts
-- What was summed up where a text has a verdict.
pub mod SummedTexts
