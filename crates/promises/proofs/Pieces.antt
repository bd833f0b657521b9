-- An input may come in pieces, wherever they are cut.
pub mod Theorem
pub mod Runs
pub mod UsedUp
pub mod Whole
