pub mod Answering
pub mod CallSteps
pub mod DrivenCalls
pub mod Explained
pub mod FirstCaches
pub mod KeptSteps
pub mod ServedRuns
pub mod Starting
