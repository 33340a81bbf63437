pub mod Decimals
pub mod Putting
pub mod Texts
pub mod Printing
pub mod Reading
pub mod Writing
