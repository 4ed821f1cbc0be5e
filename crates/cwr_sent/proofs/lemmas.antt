-- The cells of headers.
pub mod Cells
-- The table after all items of a transmission.
pub mod FilledTables
-- Links of one transaction, from the last one back.
pub mod Linked
-- The links of a group with a link more, or with a transaction more.
pub mod MoreLinks
-- The links of a group in which the answers by one sender to one transaction are replaced.
pub mod ReplacedLinks
-- The number that up to eight bytes write fits 32 bits, whatever the bytes are.
pub mod SmallNumbers
