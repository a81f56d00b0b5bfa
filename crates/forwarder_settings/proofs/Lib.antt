pub mod BlockedNames
pub mod Comments
pub mod Groups
pub mod Labels
pub mod LastLines
pub mod ServedZones
pub mod Slashes
pub mod UnderWay
