-- What is promised, in the words of the format.
pub mod VerdictNumbers
pub mod Answers
pub mod FieldNumbers
pub mod FindingNumbers
pub mod Copies
pub mod Selected
pub mod LineRecords
pub mod WrittenTexts
