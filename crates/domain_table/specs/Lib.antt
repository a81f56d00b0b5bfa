pub mod Domains
pub mod Laws
pub mod Names
