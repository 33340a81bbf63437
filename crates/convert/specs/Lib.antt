pub mod Form
pub mod Going
