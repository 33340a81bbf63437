pub mod Scans
pub mod Files
pub mod Run
