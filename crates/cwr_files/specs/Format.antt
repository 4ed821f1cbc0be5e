-- What is promised, in the words of the format.
pub mod Faults
pub mod FileLines
pub mod Files
pub mod Fronts
pub mod Inputs
pub mod NewFiles
pub mod Parts
pub mod Stamps
pub mod Written
