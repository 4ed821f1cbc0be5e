-- Parts that are counted one after another.
pub mod Counting
-- The shares of the owners in a right, added up one after another.
pub mod Owned
-- What is counted at a column's place is the sum of what is added to the column.
pub mod Totals
-- What the header of a transaction says of it.
pub mod Headers
-- Each column has its place among the numbers of a summary.
pub mod Places
-- A summary after one item more, and what it says at the end.
pub mod Summed
-- What a whole transmission has in a column is what its groups have there, and their transactions.
pub mod Wholes
-- What a transmission has in a column its transactions have there, and so have the parts of a split together.
pub mod Runs
