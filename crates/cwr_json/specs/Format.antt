-- What is promised, in the words of the format.
pub mod Encodings
pub mod Forms
pub mod Laws
