-- What is promised, in the words of the format.
pub mod Headline
pub mod WholeLines
pub mod Entries
pub mod Runs
