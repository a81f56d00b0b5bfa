pub mod Codes
pub mod DecimalLaws
