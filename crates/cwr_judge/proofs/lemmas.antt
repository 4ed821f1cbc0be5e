-- What is accepted is one transmission, and its canonical text is accepted whatever follows.
pub mod Accepted
-- A text has one end at most: it is accepted, or refused at one place for one reason, or truncated with one number of lines.
pub mod OneEnd
-- A text has some end: one that isn't accepted, and in which no place is the first bad one, is truncated.
pub mod SomeEnd
-- The items that the rows of transactions give, one after another.
pub mod ItemsOfTransactions
-- The items of a transmission's rows are those of its parts.
pub mod ItemLaws
-- The derived cells of a line that was cut, and the record that it carries.
pub mod NumberCells
-- A line that was cut is that of a record that may come next exactly where it is the line of that record's row.
pub mod NextLines
-- The cell that a line has in a field is good, or has a fault, by what the judge knows of it.
pub mod FirstFaults
-- A line of which each cell is good, and the excess too, is that of a record that may come next.
pub mod GoodLines
-- What one more record does to the open transaction: what is counted of it, and its record sequence.
pub mod OneMoreRecord
-- A record that ends the open transaction gives that as an item, and then its own.
pub mod EndingRecord
-- A record that continues the open transaction gives no item.
pub mod ContinuingRecord
-- Symbols that begin a transmission are whole exactly where the last is that of TRL.
pub mod Trailers
-- The first cells of one list and the others of another: they are good, and as wide as the fields, where both are.
pub mod MixedCells
-- From lines that were accepted, and the first good cells of one more, some transmission within the limits continues.
pub mod GoodFrontsContinue
-- Rows that are cut at one of them are those of records, cut at its record.
pub mod RecordsBefore
-- The first cells of a record's row are good, and name a symbol that the record has.
pub mod FrontCells
-- Some transmission within the limits continues from a line's first cells exactly where these are good.
pub mod ViableCells
-- The items of accepted records are the first of those of some transmission within the limits.
pub mod BegunItems
-- A line all of whose cells are good is that of a record in order, whose symbol is the one that they name.
pub mod LineRecords
-- What a transmission continues from by the symbols that accepted lines name is what it continues from by those of their
-- records.
pub mod SymbolsOfLines
-- Some transmission within the limits continues from each place in the lines that were accepted.
pub mod AcceptedViable
-- Before the first field that is wrong some transmission within the limits continues from the line.
pub mod FrontsBeforeFaults
-- At the first field that is wrong no transmission within the limits continues from the line.
pub mod NoneAtFaults
-- What the lines of records bar is what the records bar.
pub mod BarsOfLines
-- Which symbols a line's first cells name, with and without the last of these cells.
pub mod NamedSymbols
-- The record type of a line of a kind is good: it is the kind's letters, and no number.
pub mod RecordType
-- A cell that isn't one of its field's type, or is a number, names no symbol.
pub mod NamelessCells
-- Where no record of the line's kind may come, the reason is the first that holds at its first cell.
pub mod FirstReasonOfKind
-- Where a cell is not one of its type, or not the number that belongs there, the reason is the first that holds there.
pub mod FirstReasonOfCell
-- The first field that is wrong of a line has the first reason that holds there.
pub mod FirstReasons
-- A text that is neither accepted nor refused is truncated: where nothing continues from some first place, a first reason
-- holds there.
pub mod EachEnd
