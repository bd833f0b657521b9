pub mod Meaning
pub mod Range
