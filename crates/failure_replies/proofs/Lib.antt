pub mod Placed
pub mod Short
