pub mod Copies
pub mod DataEq
pub mod Forwards
pub mod LoweredTtls
pub mod Owners
pub mod Recordings
pub mod Tables
