pub mod Bounded
mod Stepping
