pub mod Limits
pub mod Undone
