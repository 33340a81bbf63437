pub mod Rows
pub mod Judging
