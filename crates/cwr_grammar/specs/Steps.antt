-- What the functions between the format's clauses and the code say of each other.
pub mod Tables
