pub mod Fraction
pub mod Double
pub mod Reach
pub mod Laws
pub mod Table
