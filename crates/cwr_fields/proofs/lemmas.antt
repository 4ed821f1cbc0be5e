-- The decimal digits of a number, and the number that digits write.
pub mod Digits
-- What a cell spells, and the digits in its parts.
pub mod Spellings
-- The day and the time that a cell spells are those of the numbers in its parts.
pub mod NumbersInParts
-- No cell of any type has a line feed.
pub mod LineFeeds
-- Trailing spaces, from the end of a text.
pub mod Trims
-- The digits of a work code by their factors.
pub mod Weights
-- Cells that hold codes, and members of tables that are found by their cells and by their places.
pub mod Members
-- The cells of sender types: codes, or two digits.
pub mod Senders
-- Cells that are all spaces, and tests that take them too.
pub mod Blanks
-- Tests that compute whether a cell is one of its type.
pub mod CellTests
-- The digits of a number, from the end of a cell.
pub mod DigitsFromTheEnd
-- Digits that are written from the last on, and what the parts of a cell say of the whole.
pub mod DigitsWritten
-- A mask of no lane.
pub mod ClearLanes
-- What is found in parts of a text that overlap.
pub mod Covers
-- What is seen in lanes of which the lesser or the greater are kept, and in those that are marked.
pub mod SeenInLanes
-- The first element of a text that passes a test, where the first elements don't.
pub mod FirstFound
-- Texts that quick tests find to be cells of their types.
pub mod QuickTexts
-- The digits of the next number are those of a number with one more at the end, where that isn't a nine; those of a number
-- below ten are zeros and one digit.
pub mod NextDigits
-- Texts without their trailing spaces.
pub mod TrimmedTexts
-- Facts that hold of each kind, one by one.
pub mod AllKinds
-- A field is found in the layout where it is found among the fields with their starts, and the last one ends the line.
pub mod FieldStarts
-- Where a type has a width, each field of the type has that width.
pub mod TypeWidths
-- The kind that stands at the place of its letters.
pub mod KindPlaces
