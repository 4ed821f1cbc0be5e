-- What is promised, in the words of the format.
pub mod Jumps
pub mod Lines
pub mod Outcomes
