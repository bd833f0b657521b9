pub mod Moved
pub mod Laws
