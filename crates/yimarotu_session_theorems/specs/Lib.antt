pub mod NetworkCalls
pub mod NetworkLaws
pub mod NetworkPlaces
pub mod NetworkRuns
