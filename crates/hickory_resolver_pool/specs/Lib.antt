pub mod Laws
pub mod Over
pub mod Pool
pub mod Servers
