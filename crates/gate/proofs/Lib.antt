pub mod Walk
pub mod Cases
pub mod Times
pub mod Flags
pub mod Octets
pub mod Worked
