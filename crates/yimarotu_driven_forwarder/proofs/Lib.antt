pub mod Fixed
pub mod Groups
pub mod Same
