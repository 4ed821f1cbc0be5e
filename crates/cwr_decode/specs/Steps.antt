-- What the code keeps, and what its calls do to that.
pub mod Calls
pub mod Decoding
pub mod HeldLists
pub mod LastReads
pub mod Laws
pub mod Machines
pub mod Passing
pub mod PiecesLeft
pub mod Readings
pub mod Represents
pub mod Runs
pub mod TextLines
pub mod TakenLines
