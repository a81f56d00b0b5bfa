pub mod Asking
pub mod Endings
pub mod HostsTold
pub mod Labels
pub mod Served
pub mod SpecialTold
