pub mod Requests
pub mod Keys
pub mod Replies
