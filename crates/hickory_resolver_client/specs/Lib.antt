pub mod Steps
pub mod Special
pub mod Verdicts
pub mod Walks
pub mod Counts
pub mod Contexts
