pub mod Floats
pub mod Putting
pub mod Fielding
pub mod Calls
pub mod Slots
pub mod Spans
pub mod Rowing
