pub mod Bounded
pub mod Undone
