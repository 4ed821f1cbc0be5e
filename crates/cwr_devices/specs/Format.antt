-- What is promised, in the words of the format.
pub mod DeviceFaultTexts
pub mod Failures
pub mod Outputs
