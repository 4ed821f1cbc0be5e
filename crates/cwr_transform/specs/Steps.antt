-- What the code keeps, and what its calls do to that.
pub mod Found
pub mod Joins
pub mod Lists
pub mod Repairs
pub mod SelectViews
pub mod Selections
pub mod Sought
pub mod Splits
pub mod TellingLists
