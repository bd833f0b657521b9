-- An input of many records, taken one after another.
pub mod Meaning
