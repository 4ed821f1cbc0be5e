-- What is told of a transaction, with advice and without.
pub mod AdviceTold
-- How a sequence goes on where the awaited number is the one that belongs there.
pub mod Awaited
-- Which faults are told of a line.
pub mod CellsTold
-- What was told where a device or memory failed.
pub mod CutShort
-- What a lint holds after records of a good text, of which one may have had a wrong number: whatever it counts by the
-- numbers, what is there is counted right, and each sequence awaits the number that belongs there.
pub mod FairStates
-- The front of a transmission: its tally is small, what a lint holds after it is fair and fresh, and its next row is gone on
-- with.
pub mod GoodFronts
-- A line of a row, or one that has another number in one cell: from a fair state it is gone on with.
pub mod GoodLines
-- The line that was read last, and what the reader has of it.
pub mod LastRead
-- Texts that are put one after another.
pub mod TextsPut
-- Lines that are held as they are read.
pub mod RawLines
-- Of a text that differs from a good one in one derived cell just that cell's fault is told.
pub mod OneCell
-- A text that differs from a good one in one derived cell is neither accepted nor truncated.
pub mod OneCellRefused
-- Where a text differs from a good one in one derived cell, nothing continues from that cell, and that is the first such place.
pub mod OtherPlaces
-- A line that is as a row has it tells nothing.
pub mod QuietLines
-- From a fair state nothing is told of the rows that follow.
pub mod QuietWalks
-- From a fair state a lint goes on with the next row of a transmission, though one of its numbers is another, and stays fair.
pub mod RowsGoOn
-- What is told of lines, one after another.
pub mod Running
-- What comes after a stage inside a group: the header of a transaction, a further record of one, or the group's foot.
pub mod StagesWithin
-- What is told of one line, step by step.
pub mod Telling
-- Texts that are put one after another, while bytes are taken from a reader.
pub mod TextsTold
-- A whole lint: a check up to the first fault, and what follows it.
pub mod Tells
