-- What is promised, in the words of the format.
pub mod FindingNotes
pub mod RecordTexts
pub mod WorkNames
