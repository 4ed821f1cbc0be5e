-- Of two texts that differ just one stands before the other as bytes, and it goes on.
pub mod BytesInOrder
-- The counts of what is kept are those of the rows.
pub mod CountsKept
-- The acknowledgements in files that are read one after another are those of each, whatever came before it.
pub mod FileOrder
-- The text of a member whose cell has a byte.
pub mod MemberTexts
-- What is in lists.
pub mod Members
-- Things that are numbered, with one more.
pub mod NumberedMore
-- The places of what is kept are those of the rows.
pub mod PlacesKept
-- What is added and put in turn, where memory can be refused too.
pub mod PutInTurn
-- A transaction has a row for each sender that answers it, or one, and the rows don't hang on the order of what was read.
pub mod RowLaws
-- The rows of what is kept are those of what was read.
pub mod RowsKept
-- Answers by different senders stand in one order by their senders.
pub mod SenderOrder
-- What stands of a sender in a row.
pub mod Senders
-- Answers by their senders.
pub mod Sorting
