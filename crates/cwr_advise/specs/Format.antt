-- What is promised, in the words of the format.
pub mod AdviceLevels
pub mod AdviceLines
pub mod AdviceTexts
pub mod Laws
pub mod RepeatedWorks
pub mod ToldAdvice
