-- What the code keeps, and what its calls do to that.
pub mod Filling
pub mod Lines
pub mod Members
pub mod Taking
