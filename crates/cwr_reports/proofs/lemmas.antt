-- A run over a text ends as that text does.
pub mod EndsOnTexts
-- The worst status of several files, with that of one more.
pub mod WorstOf
-- What is left of data or a table that is written to a file.
pub mod ExportFiles
-- What is told to a writer is told in the words of a list.
pub mod Told
-- What is written of one input where its lines are marked.
pub mod MarkedLines
-- The pieces on several files, with that of one more.
pub mod Pieces
-- What failed where a run that writes data or a table to a file ends as one that did.
pub mod ExportFails
-- A writer of which the bytes were known has known ones once something is told to it.
pub mod KnownBytes
