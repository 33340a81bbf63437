pub mod Calling
pub mod Fitting
pub mod Recording
pub mod Storing
pub mod Zeroing
