-- What was counted of an input, whether its row was written or not.
pub mod Counted
-- The bytes of an input that was read to its end.
pub mod Ends
-- Items are encoded one after another, and their canonical text is digested.
pub mod Digesting
-- The row of what was found, and one input more among others.
pub mod FoundRows
-- Inputs that were told one after another, and what stands for their sums.
pub mod Inputs
-- What is found of an input that is judged, once it was read to its end.
pub mod Judged
-- The HDR among items, with one item more.
pub mod Openings
-- What is taken of a reader, piece by piece.
pub mod Pieces
-- What is counted of several inputs, with one more.
pub mod Totals
-- What was written and handed on, and the rows that it is.
pub mod Written
