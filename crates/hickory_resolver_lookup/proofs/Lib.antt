pub mod Booleans
pub mod BoundsByType
