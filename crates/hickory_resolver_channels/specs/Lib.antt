pub mod Channels
pub mod Draws
pub mod Laws
