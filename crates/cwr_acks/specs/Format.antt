-- What is promised, in the words of the format.
pub mod AckTexts
pub mod AckData
pub mod AckLines
