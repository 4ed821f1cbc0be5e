-- What the code keeps, and what its calls do to that.
pub mod Cleared
-- Which lines a run has written to standard output.
pub mod Tells
