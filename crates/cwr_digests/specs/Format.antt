-- Digests that are there or not.
pub mod Digests
