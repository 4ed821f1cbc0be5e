-- What stands beside the words that are read stands beside any that are asked for.
pub mod Beside
-- Names of kinds with commas between them, one by one.
pub mod KindNames
-- A text that isn't read as a moment is none's.
pub mod Moments
-- What a parse finds, in rows.
pub mod Parses
-- Statuses by their codes.
pub mod Statuses
