-- What a cell stands as, with quotes and without.
pub mod CellTexts
-- The cells of a row, field by field.
pub mod CellsOfRows
-- The column of one field.
pub mod ColumnsOfFields
-- Numbers, the letters of kinds and the keys of fields don't call for quotes.
pub mod PlainTexts
-- The characters that bytes are shown as call for quotes where the bytes do, and of these only a quote stands twice.
pub mod QuotedCharacters
-- The rows of a transaction, by its header.
pub mod RowsUnder
-- The text of a row is that of its numbers, and then that of its other cells.
pub mod TextsOfRows
-- The names of the owners among the first records, with one record more.
pub mod NamesJoined
-- The owners of a work among its first records, with one record more: their shares added up, and whether a name calls for
-- quotes.
pub mod Owners
-- The text of a work's row is that of its pieces.
pub mod TextsOfWorks
-- The fields that a work's row shows, in the kinds that carry them.
pub mod WorkFields
-- The cells of an owner's name.
pub mod NamedOwners
-- Rows are read back as their cells.
pub mod ReadBack
-- The rows of items are those of all but the last, and then those of the last.
pub mod RowsOfItems
