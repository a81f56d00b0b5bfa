pub mod Askers
pub mod Laws
