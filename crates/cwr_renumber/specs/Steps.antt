-- What the code keeps, and what its calls do to that.
pub mod Jumped
pub mod Laws
pub mod Renumbered
pub mod Takings
pub mod Sources
pub mod Renumberings
