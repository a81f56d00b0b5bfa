pub mod Limits
pub mod Refused
