pub mod MadeUp
pub mod Sent
