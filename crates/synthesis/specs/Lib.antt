pub mod WireNames
pub mod TypeBits
pub mod Dname
pub mod Nsec
pub mod Base32Hex
pub mod Nsec3
pub mod Dns64
