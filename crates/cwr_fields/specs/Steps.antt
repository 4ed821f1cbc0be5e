-- What the code keeps, and what its calls do to that.
pub mod Growth
pub mod Lanes
pub mod Members
pub mod Views
