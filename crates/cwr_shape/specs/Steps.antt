-- What the code keeps, and what its calls do to that.
pub mod Counting
pub mod Left
pub mod Needs
pub mod NextStages
pub mod Stages
pub mod Tallies
pub mod Numberings
