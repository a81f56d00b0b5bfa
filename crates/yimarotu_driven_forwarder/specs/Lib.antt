pub mod Driven
pub mod Opening
pub mod Reloading
pub mod Seeds
pub mod Servers
pub mod Texts
