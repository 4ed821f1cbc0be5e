-- The row of a record is written on a line, and a line is that of one row.
pub mod RowLaws
-- A text is cut into lines in one way.
pub mod LineLaws
-- The line of a row is cut into the row's cells.
pub mod CutLaws
-- A test that computes whether a record is in order.
pub mod RecordTest
-- A line whose cells are good, one by one, is that of a record's row.
pub mod GoodLinesAreRows
-- Where the first line feed of a text stands.
pub mod LineFeedFound
-- Texts that are filled up with spaces.
pub mod FilledTexts
-- The cells of a line are parts of the line filled up to its kind's width.
pub mod CellParts
-- What a held line carries is what the first bytes of its filled text carry, as many as its kind is wide.
pub mod HeldRecords
-- What was taken of a line is cut as the line is, and each cell has its field's width.
pub mod HeldLaws
-- The carried cells of a whole line: each is the part of the line that its field takes, and is set by writing that part.
pub mod CarriedCells
-- The cells of a whole line, judged one by one.
pub mod FitCells
-- The blank cells of a kind, one after the other, carry the blank record.
pub mod BlankCells
-- A cell that is written into a whole line is set in the record that the line carries.
pub mod SetCells
-- The cells of a record are those of its row, and a cell that is set is shown.
pub mod CellLaws
-- What is known of the numbered line of each kind.
pub mod NumbersOfKinds
-- The line of a record's row is the line that the record is kept in, with the numbers put in.
pub mod NumberedLines
-- Digits that are written from the last on into a cell of zeros, until only zeros are left.
pub mod DigitsInZeros
-- Records that are kept in one text stay as they are where a line is added at its end.
pub mod KeptRecords
-- The text of kept lines that are the canonical ones of their records is the canonical text of these.
pub mod NumberedKept
-- The cells of a whole line at the places of its kind's table.
pub mod CellsAtStarts
-- A line that ended has no control byte where what was taken of it has none: it was filled up with spaces.
pub mod PlainLines
-- Which cells of a line without control bytes have to be judged: neither derived ones nor plain text.
pub mod JudgedCells
-- What a piece is that begins with plain text, a carriage return and a line feed.
pub mod FrontLines
-- Where the two sequences of a line inside a transaction stand.
pub mod SequenceCells
-- What stands after the last field of a line is what stands there in its filled text.
pub mod HeldExcess
-- A line that ended is kept in no more bytes than the longest line.
pub mod KeptLengths
-- Numbers are set in the front of a filled line, and what stands behind its last field stays.
pub mod RenumberedLines
-- Which of some lanes are control bytes, as the bits of a mask.
pub mod ControlMasks
-- The front of a piece that is copied step by step, up to its first control byte.
pub mod CopiedFronts
-- A line of a known kind that is filled up in a pad.
pub mod PaddedLines
-- Behind what a line's trailing spaces leave each cell is blank.
pub mod BlankFields
