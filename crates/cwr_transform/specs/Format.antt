-- What is promised, in the words of the format.
pub mod Imports
pub mod Joins
pub mod Lists
pub mod Missing
pub mod Openings
pub mod Repairs
pub mod Selections
pub mod SelectionsTold
pub mod Splits
pub mod Told
