-- What the code keeps, and what its calls do to that.
pub mod Counts
pub mod LastSteps
pub mod Passing
pub mod Reports
pub mod Runs
pub mod Verdicts
pub mod Watching
