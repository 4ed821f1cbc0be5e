-- What is promised, in the words of the format.
pub mod Answers
pub mod GroupRows
pub mod SentFacts
pub mod SentRows
