pub mod Candidates
pub mod Laws
pub mod Outcomes
pub mod Settings
pub mod Table
pub mod Transaction
