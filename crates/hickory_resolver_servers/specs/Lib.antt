pub mod Measures
pub mod Order
pub mod Server
