-- What the code keeps, and what its calls do to that.
pub mod CellFaults
pub mod Cells
pub mod Following
pub mod Fronts
pub mod JudgedLines
pub mod NextStates
pub mod Numbers
pub mod States
pub mod Takings
