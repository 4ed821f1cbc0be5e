-- What the rows of a summary say of inputs, and of the good ones together.
pub mod Rows
-- Inputs that are summed up.
pub mod Summed
