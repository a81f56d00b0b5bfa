pub mod Asked
pub mod Beliefs
pub mod Chains
pub mod Cutting
pub mod Streams
pub mod TryOctets
pub mod Varied
