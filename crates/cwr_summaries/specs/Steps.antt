-- What an encoder holds of items whose canonical text is digested.
pub mod Digesting
-- What is taken of a reader, piece by piece.
pub mod Pieces
-- What is found of an input, what is counted of several, and what is written of each.
pub mod Rows
-- How several inputs come out that are summed up one after another.
pub mod Summing
