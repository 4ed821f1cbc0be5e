-- What is promised, in the words of the format.
pub mod Laws
pub mod Reports
pub mod Texts
pub mod Verdicts
pub mod Viewing
pub mod Watching
