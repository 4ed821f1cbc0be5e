-- Names in two parts, and what is added of the elements of a list.
pub mod Parts
