-- What is promised, in the words of the format.
pub mod EncodeFaultTexts
pub mod Encoders
pub mod Finishing
pub mod Whole
pub mod Written
