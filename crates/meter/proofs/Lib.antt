pub mod Fill
pub mod Cases
pub mod Laws
pub mod Worked
