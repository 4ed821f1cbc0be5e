-- What the code keeps, and what its calls do to that.
pub mod Reading
pub mod Seeking
