-- What the code keeps, and what its calls do to that.
pub mod Encoders
pub mod Finishing
pub mod GroupTexts
pub mod Laws
pub mod Texts
