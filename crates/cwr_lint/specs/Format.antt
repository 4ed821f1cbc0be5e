-- What is promised, in the words of the format.
pub mod FaultsOfLines
pub mod Laws
pub mod OneCells
pub mod Told
pub mod Wanted
