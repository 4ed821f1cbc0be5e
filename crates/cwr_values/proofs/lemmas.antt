-- The canonical text of a transmission spells it.
pub mod Spelling
-- A list is cut into parts in one way, where each part begins with an element of class 1 and continues with those of class
-- 2, and what stands after them begins with class 0.
pub mod OneCutIntoParts
-- A text begins with the spelling of one transmission at most.
pub mod OneSpelling
-- Within the limits each number fits the width of its field.
pub mod NumbersFit
-- The rows of a transmission, group by group and transaction by transaction.
pub mod RowsByParts
-- Records begin a transaction of one type, by their header.
pub mod Beginnings
-- A transmission is within the limits exactly where no fault is reported of it.
pub mod FitsIsWithin
-- What is a transmission in an order whose members are all of today's is one today.
pub mod FormerOrders
-- A transaction with the header of a type is of that type, a group takes it, and what counting its records gives.
pub mod Grouping
-- Records in order, whose symbols are those of an outline, are the records of one transmission.
pub mod OneTransmissionOfRecords
-- The row of a record depends on the records before it alone.
pub mod RowAt
-- Records that fit, one for each symbol: so each order of records that is a whole one is that of some transmission, whatever
-- its first records are.
pub mod Witnesses
