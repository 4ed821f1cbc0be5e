-- What is promised, in the words of the format.
pub mod Answered
pub mod Endings
pub mod Failures
