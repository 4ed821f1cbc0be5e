-- What is promised, in the words of the format.
pub mod Endings
pub mod Failures
pub mod Puts
pub mod Sums
