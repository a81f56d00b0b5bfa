mod Canonical
pub mod Addresses
pub mod Arpa
pub mod LabelList
pub mod Name
pub mod NameDecided
pub mod NameGiven
pub mod NameLaws
pub mod NameSteps
pub mod NameText
pub mod NameTextParts
