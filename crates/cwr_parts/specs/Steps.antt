-- What the code keeps, and what its calls do to that.
pub mod Joined
pub mod Joins
pub mod SplitItems
pub mod SplitOutputs
pub mod SplitStages
pub mod SplitSteps
pub mod SplitWriters
pub mod Splitting
