pub mod Elements
pub mod Slotting
pub mod Pieces
pub mod Verdicts
