-- What is counted, a part after another.
pub mod Counted
-- The share of an owner, if that isn't blank, and those of some added up.
pub mod Shares
-- What a summary holds after some items.
pub mod SummedUp
