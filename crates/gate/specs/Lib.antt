pub mod Meaning
pub mod Entries
