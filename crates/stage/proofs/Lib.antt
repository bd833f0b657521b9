pub mod Agree
pub mod Entries
