pub mod Clock
pub mod Keys
pub mod Laws
pub mod Lending
pub mod SecondChance
