pub mod Boxed
pub mod FileServers
pub mod Memory
pub mod Opened
