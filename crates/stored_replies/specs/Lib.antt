pub mod Key
pub mod Stored
pub mod Told
pub mod Stale
pub mod Laws
pub mod Walk
