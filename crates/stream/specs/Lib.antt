pub mod Meaning
pub mod Stands
