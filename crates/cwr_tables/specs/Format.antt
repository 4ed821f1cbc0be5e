-- What is promised, in the words of the format.
pub mod Tables
pub mod RecordTables
pub mod WorkTables
pub mod Headers
pub mod Laws
pub mod TableLines
