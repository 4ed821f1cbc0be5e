-- What is promised, in the words of the format.
pub mod Carried
pub mod GoodCells
pub mod Growth
pub mod Lines
pub mod Records
