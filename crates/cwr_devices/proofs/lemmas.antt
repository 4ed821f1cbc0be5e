-- A text that is written in parts.
pub mod Moves
-- What a sink has written with one more text.
pub mod Puts
-- Texts that are added one after the other are added as one, and put as one.
pub mod Adding
-- Lemmas on the bytes that were read ahead.
pub mod BytesReadAhead
