-- What the code keeps, and what its calls do to that.
pub mod Counted
pub mod Failures
pub mod Pens
pub mod Sinks
pub mod Sources
