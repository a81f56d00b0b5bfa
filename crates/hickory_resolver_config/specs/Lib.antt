pub mod Connections
pub mod Encryption
pub mod Servers
pub mod ResolverConfig
