pub mod Meaning
pub mod Plan
