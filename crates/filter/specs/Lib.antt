pub mod Meaning
pub mod Search
pub mod Seek
