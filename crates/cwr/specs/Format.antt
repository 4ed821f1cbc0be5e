-- What is promised, in the words of the format.
pub mod Endings
pub mod Failures
pub mod Files
pub mod Selected
pub mod Styles
pub mod Tables
