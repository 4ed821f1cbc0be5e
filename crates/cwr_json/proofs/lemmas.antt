-- What is added of bytes, one by one.
pub mod BytesAdded
-- Bytes as characters, one by one.
pub mod Characters
-- Characters stand for one text, and those that bytes are shown as stand for these.
pub mod Encoded
-- What is known of the field that a cell is shown under: it is carried, and its name and its cell are short.
pub mod FieldsShown
-- The keys of each kind are distinct, and none begins with an underscore.
pub mod GoodKeys
-- The members of a record's cells, field by field.
pub mod MembersOfFields
-- Data is that of one record, and of one item, at most; and what is shown of an item is data of it.
pub mod OneItem
-- What is shown of a record is data of that record.
pub mod OwnData
-- The text of an item is its data, printed, and reads back as that.
pub mod PrintedItems
-- The text of records is their data, printed.
pub mod PrintedRecords
-- Bytes as they stand between quotes, one by one.
pub mod Spelled
