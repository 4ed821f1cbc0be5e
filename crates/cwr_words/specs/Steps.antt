-- What the code keeps.
pub mod Matches
