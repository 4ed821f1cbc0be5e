-- A line is taken from what a source shows.
pub mod LinesTaken
-- The first line of a text, with its number put right, and the later ones.
pub mod LinesOfText
-- What is left of a source stays while a line is loaded.
pub mod LinesLoaded
-- A join of one input is that input.
pub mod OneJoined
-- A line that carries a record is, with its numbers put right, the canonical line of that one.
pub mod GoodLines
-- Lines that carry the records of a transmission are, with their numbers put right, its canonical text.
pub mod RowsPutRight
