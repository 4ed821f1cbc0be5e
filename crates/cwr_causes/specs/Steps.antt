-- What the code keeps, and what its calls do to that.
pub mod Coming
pub mod Laws
pub mod LinesAtEnd
pub mod Misplaced
pub mod Refused
pub mod Shifts
pub mod Trailing
pub mod Walks
pub mod Works
