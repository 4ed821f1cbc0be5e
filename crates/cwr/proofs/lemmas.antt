-- A run over what is named ends as one over each does, and writes what is asked for of one.
pub mod Several
-- The file that a selection writes is none of what its words name.
pub mod ApartNamed
-- A run ends as it may where there is no memory to begin it.
pub mod Unbegun
-- A run of a work ends as what it reads does.
pub mod WorkEnds
-- What a run leaves under names.
pub mod Leaves
-- A run that puts numbers right ends as it may, and leaves what it may.
pub mod Renumberings
-- A run has the status of a fault only where something failed.
pub mod Failing
-- A run that may write a file has the status of a fault only where something failed.
pub mod FailsOuts
-- A selection by what became of transactions, or by other words alone.
pub mod Selecting
-- How a run over acknowledgements ends, by how many words it has.
pub mod Answering
-- The lines of a selection are written to standard output.
pub mod SelectingTold
-- What a writer that came back has is what was told to it.
pub mod CameBack
-- An import is written to standard output where no file is named.
pub mod Printed
-- A summary has the status of a fault only where an input failed.
pub mod Summing
