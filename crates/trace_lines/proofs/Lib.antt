pub mod WrongCounts
pub mod Whole
pub mod HostLines
