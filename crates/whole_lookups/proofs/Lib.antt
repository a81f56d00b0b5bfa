pub mod Hinted
pub mod InOrder
