pub mod Laws
pub mod Weights
