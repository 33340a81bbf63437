pub mod Part
pub mod Lists
pub mod Number
pub mod Write
pub mod Same
pub mod Least
pub mod Greatest
pub mod Checks
