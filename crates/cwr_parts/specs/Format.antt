-- What is promised, in the words of the format.
pub mod Joins
pub mod Laws
pub mod Outcomes
pub mod Splits
pub mod Splitting
pub mod Told
