-- What is promised, in the words of the format.
pub mod StateNames
pub mod StateSets
