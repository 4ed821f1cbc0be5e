-- What is promised, in the words of the format.
pub mod AnyTransmission
pub mod Bars
pub mod Candidates
pub mod ExpectedNumbers
pub mod LastSymbols
pub mod Laws
pub mod Levels
pub mod NextSymbols
pub mod Numbers
pub mod Outlines
pub mod Ranges
pub mod ReasonTexts
pub mod Shapes
pub mod UncarriedOrder
