-- What the code keeps, and what its calls do to that.
pub mod RowTexts
pub mod WorkTexts
pub mod ItemRows
