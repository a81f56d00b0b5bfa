pub mod Filters
pub mod Networks
