-- The fault that was found of a cell is that of the definition.
pub mod FaultsOfCells
-- What is told of a line that was judged.
pub mod JudgedLines
