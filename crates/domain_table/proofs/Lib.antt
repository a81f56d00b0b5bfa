pub mod Kept
pub mod Longest
pub mod OneValue
pub mod Suffixes
