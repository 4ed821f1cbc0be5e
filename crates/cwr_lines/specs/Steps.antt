-- What the code keeps, and what its calls do to that.
pub mod Carried
pub mod Held
pub mod KeptLines
pub mod Numbered
pub mod NumberedTexts
pub mod Pads
