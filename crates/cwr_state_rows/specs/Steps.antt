-- What the code keeps, and what its calls do to that.
pub mod HeldPlaces
pub mod HeldRows
pub mod PutRows
