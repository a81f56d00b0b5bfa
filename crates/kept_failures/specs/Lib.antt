pub mod Failures
pub mod Laws
