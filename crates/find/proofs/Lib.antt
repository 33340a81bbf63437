pub mod Walking
pub mod Reporting
