pub mod Index
pub mod HostsTable
pub mod Reading
pub mod Text
pub mod Watched
