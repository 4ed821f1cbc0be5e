-- What the code keeps, and what its calls do to that.
pub mod Gatherers
pub mod Gathering
pub mod Inputs
pub mod Markings
pub mod MemoryStores
pub mod NewFiles
pub mod NumberedFiles
