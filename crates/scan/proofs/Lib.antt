pub mod Naturals
pub mod Lengths
