pub mod Meaning
pub mod Form
pub mod Room
