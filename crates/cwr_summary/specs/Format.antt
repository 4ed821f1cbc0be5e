-- Where each column of a summary stands.
pub mod Columns
-- What stands in a transmission: how much each of its items adds to which columns.
pub mod Summaries
-- What the laws of summaries say.
pub mod Laws
