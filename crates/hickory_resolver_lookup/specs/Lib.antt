pub mod LookupAddresses
pub mod ConfigLends
pub mod Requests
