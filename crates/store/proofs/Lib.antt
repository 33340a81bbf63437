pub mod Blanking
pub mod Rooms
pub mod Starting
