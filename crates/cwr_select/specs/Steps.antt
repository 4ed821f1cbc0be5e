-- What the code keeps, and what its calls do to that.
pub mod Headers
pub mod Held
pub mod Parties
pub mod Selecting
pub mod Sent
