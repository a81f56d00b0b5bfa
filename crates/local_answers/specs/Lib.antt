pub mod Decisions
pub mod FromHosts
pub mod Laws
pub mod Replies
pub mod Rules
pub mod Special
pub mod Told
pub mod Zones
