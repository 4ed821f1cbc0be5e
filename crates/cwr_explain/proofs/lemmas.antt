-- A check, and what is written and found after it.
pub mod WordsAfter
