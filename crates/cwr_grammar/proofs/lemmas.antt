-- A parse reads the grammar as its rules say.
pub mod Read
