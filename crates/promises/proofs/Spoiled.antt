-- A spoiled row is an empty row.
pub mod Theorem
