-- What is promised, in the words of the format.
pub mod Breaks
pub mod Colours
pub mod Laws
pub mod Shown
