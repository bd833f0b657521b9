pub mod Meaning
pub mod Input
