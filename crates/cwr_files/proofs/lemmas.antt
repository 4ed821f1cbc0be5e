-- The first bytes of a text, with more of it.
pub mod Taken
-- What lies under names once a part has its name or is dropped.
pub mod Parts
-- What lies under names once the part in hand of a split has its name or is dropped.
pub mod PartsInHand
-- What is told of the parts of a split that are finished.
pub mod FinishedParts
-- A text as one that is created at another moment, as it grows.
pub mod Stamps
-- A writer that gathers has nothing so far.
pub mod Gathers
-- What is read under a word.
pub mod Reads
-- What is so of an input that couldn't be opened, by what its word names.
pub mod Unopened
-- What is left of a run that writes a file.
pub mod Outs
-- Lines that are marked as they come are those of the whole text.
pub mod Marks
-- One piece of a line more, and how lines go on behind it.
pub mod Pieces
-- Steps that the walks of `taken_texts` and `taken_writers` share.
pub mod Walks
-- How often calls failed, and what that says of a part that failed.
pub mod Counts
