pub mod Counts
pub mod Driven
pub mod Held
pub mod NetworkOpening
pub mod Seeds
