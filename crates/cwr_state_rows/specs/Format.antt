-- What the laws say.
pub mod Laws
-- What is promised, in the words of the format.
pub mod StateRows
pub mod RowTexts
pub mod StateCounts
pub mod StatePlaces
