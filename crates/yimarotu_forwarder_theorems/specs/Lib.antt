pub mod Believed
pub mod Bounds
pub mod Lookups
pub mod Questions
pub mod Replies
pub mod ReplyOctets
pub mod Runs
pub mod ToldAtOnce
