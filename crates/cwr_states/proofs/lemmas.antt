-- Names with commas between them, one by one.
pub mod NamesLemmas
