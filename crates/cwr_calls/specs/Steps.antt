-- What the code keeps, and what its calls do to that.
pub mod Checked
pub mod Reported
pub mod Listed
pub mod Writings
pub mod Selecting
-- What a summary answers to C.
pub mod Summed
