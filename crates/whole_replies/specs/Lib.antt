pub mod Kept
pub mod Received
pub mod Ways
