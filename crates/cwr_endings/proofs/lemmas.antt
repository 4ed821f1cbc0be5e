-- The status of a run is right of its text.
pub mod StatusesOnTexts
-- A name is apart from the inputs that words name.
pub mod Apart
-- What is left of a run that writes a file, by how it came to its end.
pub mod Outs
-- A text that was put and handed on.
pub mod HandedOn
-- What failed where a run that writes a file ends as one that did.
pub mod Fails
