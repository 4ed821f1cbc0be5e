-- What the code keeps, and what its calls do to that.
pub mod CutShort
pub mod LinesRead
pub mod Lints
pub mod OneCells
pub mod Puts
pub mod Runs
pub mod Walks
pub mod Works
