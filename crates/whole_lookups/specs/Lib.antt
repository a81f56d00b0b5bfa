pub mod Capped
pub mod Denied
pub mod Hints
pub mod Laws
pub mod Lookups
