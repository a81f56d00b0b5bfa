pub mod Octets
pub mod Outcome
pub mod Times
pub mod Turns
