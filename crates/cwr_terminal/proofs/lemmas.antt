-- What is shown of a text in parts.
pub mod Parts
-- What an output takes, call by call.
pub mod Taken
-- Texts and names, byte by byte.
pub mod Broken
-- The lines that a text is broken into.
pub mod Fitting
-- What is shown of a line says all that the line says.
pub mod Kept
-- Lines that are shown one by one.
pub mod ByLines
