-- What is promised, in the words of the format.
pub mod Acknowledgements
pub mod Answering
pub mod Laws
pub mod Told
