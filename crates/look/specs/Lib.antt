pub mod Put
pub mod Slot
pub mod Rows
