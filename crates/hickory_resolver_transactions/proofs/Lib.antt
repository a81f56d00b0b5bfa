pub mod Bounded
pub mod Keeping
pub mod MadeUp
pub mod Replacing
pub mod Waiting
