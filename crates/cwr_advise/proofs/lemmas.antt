-- What is added of advice.
pub mod AdvicePut
-- What is told of advice, and how much isn't, by how many pieces of each rule stand before it.
pub mod AdviceCounted
-- Of each rule the first three pieces of advice are told, or all are.
pub mod FirstTold
-- What is written of items is what is written of all but the last, and then of the last.
pub mod LinesOfAdvice
-- What the items say of the transmission, with one item more.
pub mod SaidBefore
-- The works of a transmission, kept one after another.
pub mod WorksKept
-- A report of advice before its first item, and what it knows after its last.
pub mod Begun
-- Whether something that is told has a level, among items as among each.
pub mod LevelsTold
