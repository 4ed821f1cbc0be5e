-- What is promised, in the words of the format.
pub mod Created
pub mod Criteria
pub mod Laws
pub mod Selections
pub mod Selecting
pub mod Sent
