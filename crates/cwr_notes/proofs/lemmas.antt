-- The lines of a record's cells, field by field.
pub mod CellsOfFields
-- The first field of a name, as a walk over the fields of a kind finds it, and the line on its cell.
pub mod FieldNames
-- The positions of records of which a finding speaks, as walks find them.
pub mod OthersListed
-- The shares of owners in the right of a rule, added up one by one.
pub mod OwnedShares
-- What is written of records that may be there.
pub mod RecordsThere
-- The cells of a record under their labels are the lines of its cells, but for the line feed at the end.
pub mod LabelledCells
