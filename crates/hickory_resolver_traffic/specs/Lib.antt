pub mod Acting
pub mod Doing
pub mod Groups
pub mod Inbox
pub mod Openings
pub mod Table
pub mod Tasks
pub mod Traffic
