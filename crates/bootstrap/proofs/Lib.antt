pub mod Booting
pub mod Changing
