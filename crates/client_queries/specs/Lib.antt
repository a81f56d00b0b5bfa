pub mod Places
pub mod Queries
pub mod Refusals
