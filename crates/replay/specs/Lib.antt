pub mod Hearing
pub mod ScriptRun
pub mod Statuses
pub mod Writing
