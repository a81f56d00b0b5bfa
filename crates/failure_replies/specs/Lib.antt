pub mod Failures
pub mod Laws
pub mod Rooms
