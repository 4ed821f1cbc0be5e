-- What stands for a number in what was sent, where it isn't blank.
pub mod SentValues
-- The lengths of cells, and parts of texts.
pub mod NamedParts
-- The counts of statuses with one item more.
pub mod Statuses
-- The text of data, member by member, and of what holds them.
pub mod PrintedParts
-- The lines of JSON are their data, printed.
pub mod PrintedAcks
-- The lines of items are those of all but the last, and then those of the last.
pub mod LinesOfItems
-- Where nothing is read any more, the list was walked whole.
pub mod PastEnds
-- The lines of one item more, as a report adds them.
pub mod OneItem
-- What a run leaves of what was kept before it.
pub mod LeftHeld
