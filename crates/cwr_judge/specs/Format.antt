-- What is promised, in the words of the format.
pub mod Ends
pub mod FormerEnds
pub mod GoodFronts
pub mod Items
pub mod Places
pub mod Reasons
pub mod RefusalTexts
