-- What the code keeps, and what its calls do to that.
pub mod FieldLines
pub mod Labels
pub mod OtherRecords
