pub mod Agreed
pub mod Confirming
pub mod Phases
