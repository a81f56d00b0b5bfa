pub mod Ending
pub mod Lists
pub mod Steps
pub mod Telling
