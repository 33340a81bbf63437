pub mod Number
pub mod Length
