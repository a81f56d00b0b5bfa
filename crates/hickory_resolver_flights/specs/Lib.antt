pub mod Flights
pub mod Laws
