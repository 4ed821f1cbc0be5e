-- What is promised, in the words of the format.
pub mod Begins
pub mod Begun
pub mod Fits
pub mod FormerOrders
pub mod Laws
pub mod Rows
pub mod ValueFaultTexts
pub mod Values
