-- What a hasher holds of what is read.
pub mod Digested
