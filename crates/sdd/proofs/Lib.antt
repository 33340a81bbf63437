pub mod Small
pub mod Through
