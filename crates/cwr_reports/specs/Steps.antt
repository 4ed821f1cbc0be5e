-- What the code keeps, and what its calls do to that.
pub mod Looks
pub mod Tellings
-- How several files are judged, one after another.
pub mod Several
-- What is written of several files, and quiet lines.
pub mod Marked
